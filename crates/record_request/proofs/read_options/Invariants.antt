use Rattle.std.proofs.Common.{false, length, is_some, Result}
use Rattle.line_words.specs.LineWords.{texts}
use Rattle.record_request.specs.Requests.{options, Gives}
use Rattle.record_request.specs.declared.Fault.{Fault}
use Rattle.record_request.specs.declared.Options.{Options}
use Rattle.record_request.proofs.Steps.{Adds}
use Rattle.record_request.proofs.read_options.Given as goal

-- what the options that are left add to those given so far is what all give
abbrev pub invariant-loop-word : goal.invariant-loop-word
invariant-loop-word l = (r : Result Options Fault) → Adds l.given (options 0 (is_some l.given.arcs) (is_some l.given.window) (texts l.rest)) r → Gives (options 0 false false (texts l.words)) r

abbrev pub decreases-loop-word : goal.decreases-loop-word
decreases-loop-word l = length l.rest
