use Rattle.std.proofs.Common.{◌≡◌, take}
use Rattle.media.specs.Runs.{overwrite}
use Rattle.pages.specs.Paging.{content}
use Rattle.pages.proofs.pages.Pages.store.Given as goal

abbrev pub invariant-loop-i : goal.invariant-loop-i
invariant-loop-i l = record {
  held : content l.self.pages.now l.initial.self.list.list l.initial.self.list.len ≡ overwrite (content l.initial.self.pages.now l.initial.self.list.list l.initial.self.list.len) l.at (take l.i l.from);
  list : l.self.list ≡ l.initial.self.list;
  lent : l.self.pages.ghost_name ≡ l.initial.self.pages.ghost_name;
}
