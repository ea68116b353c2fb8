use Rattle.bz_buildozer.proofs.Words.{◌++◌, ◌∙◌, ap, AppendsUnlessFailed, codes, List, named_line, opened_in, Option, option_map, present, refl, rewrite_reads, Some, subst, sym, used_in, WritesFile, Writing, ℕ}
use Rattle.bz_buildozer.proofs.EndingSteps.{trusted, unwritten_as, writing_is}
use Rattle.bz_buildozer.proofs.UnreadSteps.{grows_none, grows_read}
use Rattle.bz_buildozer.proofs.ending.write_file.Goals as goal

pub returns-clause-writes : goal.returns-clause-writes
returns-clause-writes g c plain either whole =
    let before = g.F.Files.folder c.args.files.now in
    let after = g.F.Files.folder c.rewrite.new.files in
    let file = opened_in c.in-Some.file in
    let used = used_in c.args.used.now in
    let text = c.put_file.new.output.items in
    let of_file = sym c.is_input.ensures ∙ c.if-is_input.false in
    let honest = trusted (g.F.Files.honest c.args.files.now) used of_file either in
    let writes = λ (name : List ℕ) (read : List ℕ) (bytes : List ℕ). WritesFile (Some (record { name = name; held = read; bytes = bytes })) before after in
    subst (λ (wanted : Option Writing). WritesFile wanted before after)
    (sym (writing_is c.args.options.to_stdout used file text c.if-options-2.false of_file (ap (option_map opened_in) c.in-Some.is) (sym c.in-Ok.ensures.0 ∙ c.if-not-changed.false)
    (c.in-Ok.ensures.1 ∙ ap (λ (held : List ℕ). held ++ present file.history) c.new-text.ensures.items)))
    (subst (λ (name : List ℕ). writes name file.read text) c.as_str-name.ensures.value
    (subst (λ (read : List ℕ). writes c.as_str-name.result.now read text) c.as_slice.ensures
    (subst (writes c.as_str-name.result.now c.as_slice.result.now) c.deref.ensures.value (c.in-Ok-rewrite.ensures.rewrites.held honest, c.in-Ok-rewrite.ensures.rewrites.replaced honest))))

pub returns-in_default-put_file-clause-memory : goal.returns-in_default-put_file-clause-memory
returns-in_default-put_file-clause-memory g c = λ is. (
  c.if-options.false,
  (
    opened_in c.in-Some.file,
    ap (option_map opened_in) c.in-Some.is,
    subst (λ (name : List ℕ). AppendsUnlessFailed (g.E.Sink.faults c.args.err.now) (g.E.Sink.faults c.fail.new.err) (g.E.Sink.contents c.args.err.now)
        (g.E.Sink.contents c.fail.new.err) (named_line name (codes "Memory"))) c.as_str-name.ensures.value c.fail.ensures.reported,
    refl,
  ),
)

pub returns-in_default-rewrite-clause-unwritten : goal.returns-in_default-rewrite-clause-unwritten
returns-in_default-rewrite-clause-unwritten g c = λ is.
    let F = g.F.Files in
    let before = F.folder c.args.files.now in
    let after = F.folder c.rewrite.new.files in
    let file = opened_in c.in-Some.file in
    let used = used_in c.args.used.now in
    let text = c.put_file.new.output.items in (
      c.if-options.false,
      sym c.is_input.ensures ∙ c.if-is_input.false,
      (
        record { name = file.name; held = file.read; bytes = text },
        writing_is c.args.options.to_stdout used file text c.if-options-2.false (sym c.is_input.ensures ∙ c.if-is_input.false)
            (ap (option_map opened_in) c.in-Some.is) (sym c.in-Ok.ensures.0 ∙ c.if-not-changed.false)
            (c.in-Ok.ensures.1 ∙ ap (λ (held : List ℕ). held ++ present file.history) c.new-text.ensures.items),
        subst (λ (name : List ℕ). AppendsUnlessFailed (g.E.Sink.faults c.args.err.now) (g.E.Sink.faults c.fail-in_default-rewrite.new.err) (g.E.Sink.contents c.args.err.now)
            (g.E.Sink.contents c.fail-in_default-rewrite.new.err) (named_line name (codes "cannot write"))) c.as_str-name.ensures.value c.fail-in_default-rewrite.ensures.reported,
        (λ honest. unwritten_as before after file.name c.as_str-name.result.now file.read c.as_slice.result.now text c.deref.result.now c.as_str-name.ensures.value
            c.as_slice.ensures c.deref.ensures.value (c.in_default-rewrite.ensures.rewrites.either honest) (c.in_default-rewrite.ensures.rewrites.untouched honest)),
      ),
    )

pub returns-in_default-clause-grows : goal.returns-in_default-clause-grows
returns-in_default-clause-grows g c = grows_none (g.F.Files.acts c.args.files.now)

pub returns-then-options-2-clause-grows : goal.returns-then-options-2-clause-grows
returns-then-options-2-clause-grows g c = grows_none (g.F.Files.acts c.args.files.now)

pub returns-in_default-put_file-clause-grows : goal.returns-in_default-put_file-clause-grows
returns-in_default-put_file-clause-grows g c = grows_none (g.F.Files.acts c.args.files.now)

pub returns-in_default-rewrite-clause-grows : goal.returns-in_default-rewrite-clause-grows
returns-in_default-rewrite-clause-grows g c = grows_read (g.F.Files.acts c.args.files.now) (g.F.Files.acts c.rewrite.new.files)
    (rewrite_reads c.rewrite.result c.as_str-name.result.now c.as_slice.result.now c.deref.result.now (g.F.Files.acts c.args.files.now) (g.F.Files.acts c.rewrite.new.files) c.rewrite.ensures.ordered)

pub returns-clause-grows : goal.returns-clause-grows
returns-clause-grows g c = grows_read (g.F.Files.acts c.args.files.now) (g.F.Files.acts c.rewrite.new.files)
    (rewrite_reads c.rewrite.result c.as_str-name.result.now c.as_slice.result.now c.deref.result.now (g.F.Files.acts c.args.files.now) (g.F.Files.acts c.rewrite.new.files) c.rewrite.ensures.ordered)

pub returns-then-file-clause-grows : goal.returns-then-file-clause-grows
returns-then-file-clause-grows g c = grows_none (g.F.Files.acts c.args.files.now)
