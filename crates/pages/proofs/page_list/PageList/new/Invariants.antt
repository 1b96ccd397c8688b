use Rattle.pages.specs.Paging.{Apart}
use Rattle.pages.proofs.page_list.PageList.new.Given as goal

abbrev pub invariant-loop-j : goal.invariant-loop-j
invariant-loop-j l = Apart l.numbers l.j
