use Rattle.std.proofs.Common.{◌++◌, string_bytes, ap, ◌∙◌, arith}
use Rattle.record_lines.specs.Texts.{line, head_text, foot_text}
use Rattle.record_report.specs.Reports.{lines}
use Rattle.record_report.proofs.LineLaws.{joined}
use Rattle.record_report.proofs.FoundLaws.{found_turn, found_end}
use Rattle.record_report.proofs.reports.report.Goals as goal

pub loop-f-preserved : goal.loop-f-preserved
loop-f-preserved g c =
    let t = c.args.table.now in
    let (few, high, so_far) = c.loop-f.invariant in
    let (low, there) = c.requires.later _ _ c.in-Some.ensures in
    let more = c.in_ok-push_str.ensures.bytes ∙ ap (λ v. string_bytes c.loop-f.text ++ v) (c.as_str.ensures.value ∙ c.in_ok-record_line.ensures) in (
      omega (arith, few, low),
      omega (arith, there),
      λ w h.
          let (n, e) = so_far w h in
          found_turn w (line (g.T.RecordTable.place t) (g.T.RecordTable.list_place t)) (string_bytes c.in_ok-text.text) (g.T.RecordTable.count t) c.loop-f.k c.in-Some.f c.loop-f.found _ _
          (h _ _ c.in-Some.ensures) n e more,
    )

pub returns : goal.returns
returns g c =
    let t = c.args.table.now in
    let text = line (g.T.RecordTable.place t) (g.T.RecordTable.list_place t) in
    let (few, high, so_far) = c.loop-f.invariant in
    λ w h.
    let (was, is) = so_far w h in
    let (n, l) = found_end w text (string_bytes c.in_ok-text.text) (g.T.RecordTable.count t) c.loop-f.k c.loop-f.found _ (h _ _ c.in_default.ensures) high was is in
    joined (lines w text (g.T.RecordTable.count t))
    (c.in_ok-text.ensures ∙ ap (head_text c.args.kind c.args.version) c.len.ensures)
    l
    (c.as_str-2.ensures.value ∙ c.in_ok-foot_line.ensures ∙ ap foot_text n)
    c.in_ok-push_str-2.ensures.bytes
