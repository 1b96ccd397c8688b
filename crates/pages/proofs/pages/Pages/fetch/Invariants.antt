use Rattle.std.proofs.Common.{◌≡◌, ℕ, ◌+◌, ◌<◌, get_or}
use Rattle.pages.specs.Paging.{byte_at}
use Rattle.pages.proofs.pages.Pages.fetch.Given as goal

abbrev pub invariant-loop-i : goal.invariant-loop-i
invariant-loop-i l = (k : ℕ) → k < l.i → get_or l.into k 0 ≡ byte_at l.self.pages.now l.self.list.list (l.at + k)
