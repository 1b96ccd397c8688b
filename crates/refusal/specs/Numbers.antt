-- The number of each refusal, and how it is told.
use Rattle.std.specs.Prelude.{ℕ, List, ◌++◌, codes, decimal}
use Rattle.refusal.specs.declared.Refusal.{Refusal}
use Rattle.refusal.specs.declared.Refusal.TheVariants.{PastEnd, NoSuchPage, PageTwice, OtherKind, OtherVersion, UnsupportedFlags, CountOutOfRange, VertexCountOutOfRange, NotFinite, UnfitBox, NoSuchNode, EndsApart, NodeListDiffers, NoSuchPolygon, UnfitEntry, RingNotClosed, PolygonWithoutRing, SideInNoRing, NodeNeedsTwoTurns, NoSuchElement, UnfitRun, NoRoom, ArcNotClosedAlone, PolygonLosesLastRing, NotInsideArc, NotTwoEndsOfTwoArcs, SidesInTwoRings, RunEndsElsewhere, SidesShareRing, RingsAlone, DoesNotFit}

abbrev pub number : Refusal → ℕ
number PastEnd = 1
number NoSuchPage = 2
number PageTwice = 3
number OtherKind = 4
number OtherVersion = 5
number UnsupportedFlags = 6
number CountOutOfRange = 7
number VertexCountOutOfRange = 8
number NotFinite = 9
number UnfitBox = 10
number NoSuchNode = 11
number EndsApart = 12
number NodeListDiffers = 13
number NoSuchPolygon = 14
number UnfitEntry = 15
number RingNotClosed = 16
number PolygonWithoutRing = 17
number SideInNoRing = 18
number NodeNeedsTwoTurns = 19
number NoSuchElement = 20
number UnfitRun = 21
number NoRoom = 22
number ArcNotClosedAlone = 23
number PolygonLosesLastRing = 24
number NotInsideArc = 25
number NotTwoEndsOfTwoArcs = 26
number SidesInTwoRings = 27
number RunEndsElsewhere = 28
number SidesShareRing = 29
number RingsAlone = 30
number DoesNotFit = 31

-- as programs tell it: refused 20
abbrev pub refusal_text : Refusal → List ℕ
refusal_text e = codes "refused " ++ decimal (number e)
