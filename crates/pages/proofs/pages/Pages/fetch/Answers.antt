use Rattle.std.proofs.Common.{length, arith}
use Rattle.pages.proofs.Contents.{run_from_bytes}
use Rattle.pages.proofs.pages.Pages.fetch.Goals as goal

pub returns : goal.returns
returns c = run_from_bytes c.args.self.now.pages.now c.args.self.now.list.list c.loop-i.into c.args.self.now.list.len c.args.at (length c.args.into.now) (omega arith) c.requires.listed (λ k h. c.loop-i.invariant k (omega arith))
