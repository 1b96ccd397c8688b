-- A record passes the test for a window exactly if it meets the window.
use Rattle.std.proofs.Common.{◌≡◌, true, Ok, Err, Result}
use Rattle.std.proofs.lemmas.Bool.{and_parts, and_from, false≢true}
use Rattle.refusal.specs.declared.Refusal.{Refusal}
use Rattle.boxes.specs.declared.edges.Edges.{Edges}
use Rattle.boxes.specs.declared.bounds.Bounds.{Bounds}
use Rattle.boxes.specs.Boxes.{fair_edges, edges_of, meets}
use Rattle.boxes.proofs.MeetLaws.{share_from_meets, meets_from_share}
use Rattle.tables.specs.Windows.{Meeting, met}

pub meeting_from_met : (o : Result Edges Refusal) (w : Bounds) → met o (edges_of w) ≡ true → Meeting o (edges_of w)
meeting_from_met (Ok e) w h = let (f, m) = and_parts (fair_edges e) (meets e (edges_of w)) h in (f, share_from_meets e (edges_of w) f w.ok m)
meeting_from_met (Err r) w h = false≢true h

pub met_from_meeting : (o : Result Edges Refusal) (w : Bounds) → Meeting o (edges_of w) → met o (edges_of w) ≡ true
met_from_meeting (Ok e) w (f, s) = and_from (fair_edges e) (meets e (edges_of w)) f (meets_from_share e (edges_of w) s)
met_from_meeting (Err r) w h = absurd h
