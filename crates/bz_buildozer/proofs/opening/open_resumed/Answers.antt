use Rattle.bz_buildozer.proofs.Words.{[], ◌∙◌, ◌≡◌, ◌≢◌, ap, Bool, Bytes, bytes_eq-Decides, Cut as cut, Err, false, fault_lines, JournalGives, None, not, of_package, of_resuming, Ok, opened_in, Option, option_map, past_history, refl, session_history, SessionState, Some, string_bytes, subst, sym, taken_in, TakesBeside, true, true≢false}
use Rattle.bz_buildozer.specs.Found as p
use Rattle.bz_buildozer.proofs.{ReadSteps.fault_gives, ReadSteps.other_gives, ReadSteps.resumed_gives, ReadSteps.same_opened, FailSteps.none_taken}
use Rattle.bz_buildozer.proofs.opening.open_resumed.Goals as goal

pub returns-in-Err-clause-whole : goal.returns-in-Err-clause-whole
returns-in-Err-clause-whole g c = λ cut.
    let current = c.args.package.now in
    let bytes = c.args.bytes.now in
    let fault = c.in-Err.fault in
    let file : taken_in c.unresumed.result ≡ None = ap (option_map opened_in) c.unresumed.ensures.file in (
      fault_lines c.args.journal.now (of_resuming fault),
      subst (λ (found : Option p.Opened). TakesBeside (Some bytes) current c.args.name.now c.args.text.items found (fault_lines c.args.journal.now (of_resuming fault))) (sym file) (
        Err (of_resuming fault),
        subst (λ (text : Bytes). JournalGives current bytes text (Err (of_resuming fault))) c.as_slice.ensures.value
            (fault_gives SessionState current bytes c.as_slice.result.now fault (c.unresumed.ensures.whole cut) c.in-Err.ensures.version c.in-Err.ensures.damaged c.in-Err.ensures.stale),
        refl,
        ap (λ (j : Bytes). fault_lines j (of_resuming fault)) c.requires,
      ),
      c.unresumed.ensures.reported,
    )

pub returns-then-ne-clause-whole : goal.returns-then-ne-clause-whole
returns-then-ne-clause-whole g c = λ _.
    let session = c.in-Ok.session in
    let current = c.args.package.now in
    let bytes = c.args.bytes.now in
    let named = c.package-then-ne.result.now in
    let other : session.«package» ≢ current = λ same.
    true≢false (sym c.if-ne.true ∙ c.ne.ensures ∙ ap not ((bytes_eq-Decides c.«package».result.now current).1 (c.«package».ensures ∙ same))) in
    none_taken g.E.Sink (λ _. TakesBeside (Some bytes) current c.args.name.now c.args.text.items) c.misplaced.result cut.Whole c.args.err.now c.misplaced.new.err
    (fault_lines c.args.journal.now (of_package named)) c.misplaced.ensures.taken (
      Err (of_package named),
      subst (λ (text : Bytes). JournalGives current bytes text (Err (of_package named))) c.as_slice.ensures.value
          (subst (λ (called : Bytes). JournalGives current bytes c.as_slice.result.now (Err (of_package called))) (sym c.package-then-ne.ensures)
          (other_gives current bytes c.as_slice.result.now session c.in-Ok.ensures.ok other)),
      refl,
      ap (λ (j : Bytes). fault_lines j (of_package named)) c.requires,
    ) c.misplaced.ensures.reported

not_false : (b : Bool) → not b ≡ false → b ≡ true
not_false true e = refl
not_false false e = absurd cc

pub returns-in-Ok-from_str-clause-whole : goal.returns-in-Ok-from_str-clause-whole
returns-in-Ok-from_str-clause-whole g c = λ _.
    let session = c.in-Ok.session in
    let current = c.args.package.now in
    let name = c.args.name.now in
    let text = c.args.text.items in
    let called = (bytes_eq-Decides c.«package».result.now current).0 (not_false _ (sym c.ne.ensures ∙ c.if-ne.false)) in
    let named : session.«package» ≡ current = sym c.«package».ensures ∙ called in (
      [],
      (
        Ok (session_history session),
        subst (λ (text : Bytes). JournalGives current c.args.bytes.now text (Ok (session_history session))) c.as_slice.ensures.value
            (resumed_gives current c.args.bytes.now c.as_slice.result.now session c.in-Ok.ensures.ok named),
        ap (λ (file : p.Opened). Some file) (c.new-in-Ok-from_str.ensures
            ∙ same_opened (string_bytes c.in-Ok-from_str.name) name c.from_vec.result text (past_history c.new.result) (session_history session) c.in-Ok-from_str.ensures.ok c.from_vec.ensures (ap past_history c.new.ensures)),
        refl,
      ),
      (refl, refl),
    )
