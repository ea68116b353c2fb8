use Rattle.bz_buildifier.proofs.Words.{◌∙◌, ◌≡◌, ap, appends_nothing, Cut as cut, Err, false, FormatsAs, input_out, input_printed, input_unformatted, input_unread, input_without_memory, is_bzl, List, Ok, Prints, refl, stdin, subst, sym, text_status, ℕ}
use Rattle.bz_buildifier.specs.FormatRun as r
use Rattle.bz_buildifier.proofs.FormatSteps.{quiet, refused_quiet, ok_of_front, err_of_front}
use Rattle.bz_buildifier.proofs.formatting.input_effect.Goals as goal

pub returns-in-Err-Read-clause-step : goal.returns-in-Err-Read-clause-step
returns-in-Err-Read-clause-step g c =
    let e = c.fail.ensures in
    (r.unopened stdin cut.Read, input_unread refl, e.effect, (refl, appends_nothing (g.W.Sink.contents c.args.out.now)), e.reported)

pub returns-in-Err-Memory-clause-step : goal.returns-in-Err-Memory-clause-step
returns-in-Err-Memory-clause-step g c =
    let e = c.fail-in-Err-Memory.ensures in
    (r.memory_effect stdin, input_without_memory refl, e.effect, (refl, appends_nothing (g.W.Sink.contents c.args.out.now)), e.reported)

pub returns-in-Err-clause-step : goal.returns-in-Err-clause-step
returns-in-Err-clause-step g c =
    let fault = c.in-Err.fault in
    let formats : FormatsAs (is_bzl c.args.options.file_type stdin) c.in-Ok.text.items (Err fault) = subst (λ (t : List ℕ). FormatsAs (is_bzl c.args.options.file_type stdin) t (Err fault)) c.deref.ensures.value c.in-Err.ensures in
    let some = err_of_front (is_bzl c.args.options.file_type stdin) (g.R.Source.remaining c.args.input.now) c.in-Ok.text.items fault c.in-Ok.ensures.ok formats in
    let slice = c.deref-in-Err.result.now in
    let alike : r.refused stdin slice fault ≡ r.refused stdin some.0 fault =
    ap (λ (t : List ℕ). r.refused stdin t fault) c.deref-in-Err.ensures.value ∙ some.3 stdin in
    let effect = r.refused stdin slice fault in (
      effect,
      input_unformatted some.0 fault some.1 some.2 alike,
      c.refused.ensures.effect,
      quiet false effect (g.W.Sink.faults c.args.out.now) (g.W.Sink.contents c.args.out.now) (refused_quiet stdin slice fault),
      c.refused.ensures.reported,
    )

pub returns-in-Ok-input_out-clause-step : goal.returns-in-Ok-input_out-clause-step
returns-in-Ok-input_out-clause-step g c =
    let mode = c.args.options.mode in
    let new = c.in-Ok-format_named.new in
    let front = c.in-Ok.text.items in
    let formats : FormatsAs (is_bzl c.args.options.file_type stdin) front (Ok new) = subst (λ (t : List ℕ). FormatsAs (is_bzl c.args.options.file_type stdin) t (Ok new)) c.deref.ensures.value c.in-Ok-format_named.ensures in
    let some = ok_of_front (is_bzl c.args.options.file_type stdin) (g.R.Source.remaining c.args.input.now) front new c.in-Ok.ensures.ok formats in
    let out : c.as_slice-in-Ok-input_out.result.now ≡ input_out mode front new =
    c.as_slice-in-Ok-input_out.ensures ∙ (rw (c.deref-3.ensures.value) at c.in-Ok-input_out.ensures) in
    let status : c.text_status-status.result ≡ text_status mode front new =
    rw (c.deref-2.ensures.value, c.as_slice.ensures) at c.text_status-status.ensures in
    let step = c.print.ensures.step in
    let slice = c.deref-in-Ok-input_out.result.now in
    let prints : Prints false stdin front (input_out mode front new) (text_status mode front new) step.0 =
    subst (λ (t : List ℕ). Prints false stdin t (input_out mode front new) (text_status mode front new) step.0) c.deref-in-Ok-input_out.ensures.value
    (subst (λ (bytes : List ℕ). Prints false stdin slice bytes (text_status mode front new) step.0) out
    (subst (λ (n : ℕ). Prints false stdin slice c.as_slice-in-Ok-input_out.result.now n step.0) status step.1)) in (
      step.0,
      input_printed some.0 new some.1 (subst (λ (text : List ℕ). FormatsAs (is_bzl c.args.options.file_type stdin) text (Ok new)) (sym some.2) formats)
          (subst (λ (text : List ℕ). Prints false stdin text (input_out mode text new) (text_status mode text new) step.0) (sym some.2) prints),
      step.2,
      step.3,
      step.4,
    )

pub returns-clause-step : goal.returns-clause-step
returns-clause-step g c =
    let e = c.fail-in-Err-input_out.ensures in
    (r.memory_effect stdin, input_without_memory refl, e.effect, (refl, appends_nothing (g.W.Sink.contents c.args.out.now)), e.reported)
