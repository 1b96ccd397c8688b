pub mod Order
pub mod Finite
pub mod StoredBack
pub mod MeetLaws
