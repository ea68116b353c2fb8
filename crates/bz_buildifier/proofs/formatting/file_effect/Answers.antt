use Rattle.bz_buildifier.proofs.Words.{[], ◌++◌, ◌∙◌, ◌≡◌, ap, Err, false, file_out, FormatsAs, inl, inr, is_bzl, is_rewritten, kept, List, Prints, reads_on, reads_one, refl, Reports, reports_more, rewrite_reads, Rewrites, rewritten, subst, sym, text_status, true, unformatted, unread, without_memory, ℕ}
use Rattle.bz_buildifier.specs.FormatRun as r
use Rattle.bz_buildifier.proofs.FormatSteps.{nothing_more, quiet, unread_quiet, refused_quiet, same_rewrites, formatted_file, refused_file}
use Rattle.bz_buildifier.proofs.formatting.file_effect.Goals as goal

pub returns-in-Err-clause-step : goal.returns-in-Err-clause-step
returns-in-Err-clause-step g c = λ honest.
    let effect = r.unread_file c.args.name.now c.in-Err.fault in (
      effect,
      unread c.in-Err.fault (λ is. c.in-Err.ensures.absent honest (ap Err is)) refl (c.in-Err.ensures.same honest),
      c.unread_file.ensures.effect,
      quiet c.args.closed effect (g.W.Sink.faults c.args.out.now) (g.W.Sink.contents c.args.out.now) (unread_quiet c.args.name.now c.in-Err.fault),
      c.unread_file.ensures.reported,
    )

pub returns-in-Err-format_named-clause-step : goal.returns-in-Err-format_named-clause-step
returns-in-Err-format_named-clause-step g c = λ honest.
    let name = c.args.name.now in
    let fault = c.in-Err-format_named.fault in
    let text = c.read_most.new.into.items in
    let found = c.in-Ok.ensures.found honest in
    let formats : FormatsAs (is_bzl c.args.options.file_type c.args.name.now) text (Err fault) = subst (λ (t : List ℕ). FormatsAs (is_bzl c.args.options.file_type c.args.name.now) t (Err fault)) c.deref.ensures.value c.in-Err-format_named.ensures in
    let of_file = refused_file (is_bzl c.args.options.file_type name) found.0 c.new-text.result.items text fault found.2 c.new-text.ensures.items formats in
    let slice = c.deref-in-Err-format_named.result.now in
    let alike : r.refused name slice fault ≡ r.refused name found.0 fault =
    ap (λ (t : List ℕ). r.refused name t fault) c.deref-in-Err-format_named.ensures.value ∙ of_file.1 name in
    let effect = r.refused name slice fault in (
      effect,
      unformatted found.0 fault found.1 of_file.0 alike (c.in-Ok.ensures.same honest),
      c.refused.ensures.effect,
      quiet c.args.closed effect (g.W.Sink.faults c.args.out.now) (g.W.Sink.contents c.args.out.now) (refused_quiet name slice fault),
      c.refused.ensures.reported,
    )

pub returns-in-Ok-rewrite-clause-step : goal.returns-in-Ok-rewrite-clause-step
returns-in-Ok-rewrite-clause-step g c = λ honest.
    let name = c.args.name.now in
    let before = g.F.Files.folder c.args.files.now in
    let after = g.F.Files.folder c.rewrite.new.files in
    let new = c.in-Ok-format_named.new in
    let text = c.read_most.new.into.items in
    let found = c.in-Ok.ensures.found honest in
    let file = formatted_file (is_bzl c.args.options.file_type name) before name found.0 c.new-text.result.items text c.deref.result.now new found.1 found.2 c.new-text.ensures.items c.deref.ensures.value c.in-Ok-format_named.ensures in
    let differs : is_rewritten c.args.options.mode text new ≡ true =
    rw (c.deref-2.ensures.value, c.as_slice.ensures) at (sym c.is_rewritten.ensures ∙ c.if-is_rewritten.true) in
    let once = c.in-Ok.ensures.honest ∙ honest in
    let slice = c.deref-then-is_rewritten-2.result.now in
    let effect = r.noted name slice (r.output_effect [] 0) in
    let faults = g.E.Sink.faults in
    let held = g.E.Sink.contents in
    let mid = c.note_names.new.err in
    let rewrites : Rewrites name slice c.as_slice-then-is_rewritten.result.now (g.F.Files.folder c.read_most.new.self) effect after =
    inl (refl, c.in-Ok-rewrite.ensures.rewrites.held once, c.in-Ok-rewrite.ensures.rewrites.replaced once) in (
      effect,
      rewritten text new file.0 file.1 differs (same_rewrites name text _ new _ before _ after effect c.deref-then-is_rewritten-2.ensures.value c.as_slice-then-is_rewritten.ensures (c.in-Ok.ensures.same honest) rewrites),
      refl,
      nothing_more c.args.closed (g.W.Sink.faults c.args.out.now) (g.W.Sink.contents c.args.out.now),
      subst (λ (t : List ℕ). Reports (faults c.args.err.now) (faults mid) (held c.args.err.now) (held mid) (r.name_notes name t ++ []))
          (c.deref-then-is_rewritten.ensures.value ∙ sym c.deref-then-is_rewritten-2.ensures.value)
          (reports_more (faults c.args.err.now) (faults mid) (faults mid) (held c.args.err.now) (held mid) (held mid) _ [] c.note_names.ensures (refl, refl)),
    )

pub returns-in-Err-rewrite-clause-step : goal.returns-in-Err-rewrite-clause-step
returns-in-Err-rewrite-clause-step g c = λ honest.
    let name = c.args.name.now in
    let before = g.F.Files.folder c.args.files.now in
    let after = g.F.Files.folder c.rewrite.new.files in
    let new = c.in-Ok-format_named.new in
    let text = c.read_most.new.into.items in
    let found = c.in-Ok.ensures.found honest in
    let file = formatted_file (is_bzl c.args.options.file_type name) before name found.0 c.new-text.result.items text c.deref.result.now new found.1 found.2 c.new-text.ensures.items c.deref.ensures.value c.in-Ok-format_named.ensures in
    let differs : is_rewritten c.args.options.mode text new ≡ true =
    rw (c.deref-2.ensures.value, c.as_slice.ensures) at (sym c.is_rewritten.ensures ∙ c.if-is_rewritten.true) in
    let once = c.in-Ok.ensures.honest ∙ honest in
    let slice = c.deref-then-is_rewritten-2.result.now in
    let effect = r.noted name slice (r.unwritten name) in
    let faults = g.E.Sink.faults in
    let held = g.E.Sink.contents in
    let mid = c.note_names.new.err in
    let last = c.fail.new.err in
    let rewrites : Rewrites name slice c.as_slice-then-is_rewritten.result.now (g.F.Files.folder c.read_most.new.self) effect after =
    inr (refl, c.in-Err-rewrite.ensures.rewrites.untouched once, c.in-Err-rewrite.ensures.rewrites.either once) in (
      effect,
      rewritten text new file.0 file.1 differs (same_rewrites name text _ new _ before _ after effect c.deref-then-is_rewritten-2.ensures.value c.as_slice-then-is_rewritten.ensures (c.in-Ok.ensures.same honest) rewrites),
      c.fail.ensures.effect,
      nothing_more c.args.closed (g.W.Sink.faults c.args.out.now) (g.W.Sink.contents c.args.out.now),
      subst (λ (t : List ℕ). Reports (faults c.args.err.now) (faults last) (held c.args.err.now) (held last) (r.name_notes name t ++ (r.unwritten name).lines))
          (c.deref-then-is_rewritten.ensures.value ∙ sym c.deref-then-is_rewritten-2.ensures.value)
          (reports_more (faults c.args.err.now) (faults mid) (faults last) (held c.args.err.now) (held mid) (held last) _ _ c.note_names.ensures c.fail.ensures.reported),
    )

pub returns-in-Ok-file_out-clause-step : goal.returns-in-Ok-file_out-clause-step
returns-in-Ok-file_out-clause-step g c = λ honest.
    let name = c.args.name.now in
    let mode = c.args.options.mode in
    let before = g.F.Files.folder c.args.files.now in
    let new = c.in-Ok-format_named.new in
    let text = c.read_most.new.into.items in
    let found = c.in-Ok.ensures.found honest in
    let file = formatted_file (is_bzl c.args.options.file_type name) before name found.0 c.new-text.result.items text c.deref.result.now new found.1 found.2 c.new-text.ensures.items c.deref.ensures.value c.in-Ok-format_named.ensures in
    let stays : is_rewritten mode text new ≡ false =
    rw (c.deref-2.ensures.value, c.as_slice.ensures) at (sym c.is_rewritten.ensures ∙ c.if-is_rewritten.false) in
    let out : c.as_slice-in-Ok-file_out.result.now ≡ file_out mode name text new =
    c.as_slice-in-Ok-file_out.ensures ∙ (rw (c.deref-4.ensures.value) at c.in-Ok-file_out.ensures) in
    let status : c.text_status-status.result ≡ text_status mode text new =
    rw (c.deref-3.ensures.value, c.as_slice-2.ensures) at c.text_status-status.ensures in
    let step = c.print.ensures.step in
    let prints : Prints c.args.closed name text (file_out mode name text new) (text_status mode text new) step.0 =
    subst (λ (t : List ℕ). Prints c.args.closed name t (file_out mode name text new) (text_status mode text new) step.0) c.deref-in-Ok-file_out.ensures.value
    (subst (λ (bytes : List ℕ). Prints c.args.closed name c.deref-in-Ok-file_out.result.now bytes (text_status mode text new) step.0) out
    (subst (λ (n : ℕ). Prints c.args.closed name c.deref-in-Ok-file_out.result.now c.as_slice-in-Ok-file_out.result.now n step.0) status step.1)) in
    (step.0, kept text new file.0 file.1 stays prints (c.in-Ok.ensures.same honest), step.2, step.3, step.4)

pub returns-clause-step : goal.returns-clause-step
returns-clause-step g c =
    let e = c.fail-in-Err-file_out.ensures in
    λ honest. (r.memory_effect c.args.name.now, without_memory refl (c.in-Ok.ensures.same honest), e.effect, nothing_more c.args.closed (g.W.Sink.faults c.args.out.now) (g.W.Sink.contents c.args.out.now), e.reported)

pub returns-in-Err-clause-regular : goal.returns-in-Err-clause-regular
returns-in-Err-clause-regular g c = reads_one (g.F.Files.acts c.args.files.now) (g.F.Files.acts c.read_most.new.self) _ refl c.read_most.ensures.acts

pub returns-in-Err-format_named-clause-regular : goal.returns-in-Err-format_named-clause-regular
returns-in-Err-format_named-clause-regular g c = reads_one (g.F.Files.acts c.args.files.now) (g.F.Files.acts c.read_most.new.self) _ refl c.read_most.ensures.acts

pub returns-in-Ok-file_out-clause-regular : goal.returns-in-Ok-file_out-clause-regular
returns-in-Ok-file_out-clause-regular g c = reads_one (g.F.Files.acts c.args.files.now) (g.F.Files.acts c.read_most.new.self) _ refl c.read_most.ensures.acts

pub returns-clause-regular : goal.returns-clause-regular
returns-clause-regular g c = reads_one (g.F.Files.acts c.args.files.now) (g.F.Files.acts c.read_most.new.self) _ refl c.read_most.ensures.acts

pub returns-in-Ok-rewrite-clause-regular : goal.returns-in-Ok-rewrite-clause-regular
returns-in-Ok-rewrite-clause-regular g c =
    let a = g.F.Files.acts c.args.files.now in
    let b = g.F.Files.acts c.read_most.new.self in
    reads_on a b (g.F.Files.acts c.rewrite.new.files) (reads_one a b _ refl c.read_most.ensures.acts) (rewrite_reads _ _ _ _ b (g.F.Files.acts c.rewrite.new.files) c.in-Ok-rewrite.ensures.ordered)

pub returns-in-Err-rewrite-clause-regular : goal.returns-in-Err-rewrite-clause-regular
returns-in-Err-rewrite-clause-regular g c =
    let a = g.F.Files.acts c.args.files.now in
    let b = g.F.Files.acts c.read_most.new.self in
    reads_on a b (g.F.Files.acts c.rewrite.new.files) (reads_one a b _ refl c.read_most.ensures.acts) (rewrite_reads _ _ _ _ b (g.F.Files.acts c.rewrite.new.files) c.in-Err-rewrite.ensures.ordered)
