use Rattle.boxes.proofs.MeetLaws.{share_from_meets, meets_from_share}
use Rattle.boxes.proofs.bounds.Bounds.meets.Goals as goal

pub returns-clause-shares : goal.returns-clause-shares
returns-clause-shares c =
    let a = c.args.self.now in
    let b = c.args.other.now in
    (share_from_meets a.edges b.edges a.ok b.ok, meets_from_share a.edges b.edges)
