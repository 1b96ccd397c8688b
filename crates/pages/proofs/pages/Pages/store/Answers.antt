use Rattle.std.proofs.Common.{◌≡◌, ℕ, ◌+◌, ◌/◌, ◌%◌, [], length, get_or, ap, ◌∙◌, arith}
use Rattle.pages.specs.Paging.{content, stored}
use Rattle.pages.proofs.Contents.{store_more, length_content}
use Rattle.pages.proofs.pages.Pages.store.Goals as goal

pub loop-i-preserved : goal.loop-i-preserved
loop-i-preserved c =
    let ps = c.args.self.now.list.list in
    let n = c.args.self.now.list.len in
    let pages = c.loop-i.self.pages.now in
    let a = c.args.at + c.loop-i.i in
    let page : c.page.result ≡ get_or ps (a / 512) 0 = c.page.ensures.value ∙ ap (λ list. get_or list.list (a / 512) 0) c.loop-i.invariant.list in
    let at-page : (p : ℕ) → p ≡ get_or ps (a / 512) 0 → length (get_or pages p []) ≡ 512 → length (get_or pages (get_or ps (a / 512) 0) []) ≡ 512 = λ p e h. rw e at h in
    record {
      held =
          ap (λ pages. content pages ps n) c.put.ensures.after
          ∙ ap (λ p. content (stored pages p (a % 512) (get_or c.args.from.now c.loop-i.i 0)) ps n) page
          ∙ store_more pages (content c.args.self.now.pages.now ps n) ps c.args.from.now n c.args.at c.loop-i.i
          c.args.self.now.list.below c.args.self.now.list.apart c.put.ensures.all
          (at-page c.page.result page c.put.ensures.whole)
          (length_content c.args.self.now.pages.now ps n) c.requires.listed (omega arith) c.loop-i.invariant.held;
      list = c.loop-i.invariant.list;
      lent = c.loop-i.invariant.lent;
    }
