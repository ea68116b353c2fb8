-- Worked rows: what undo, redo and new texts make of small histories.
use Rattle.std.specs.Prelude.{◌≡◌, [], ◌∷◌, codes, Some, None, Ok, Err}
use Rattle.bz_journal.specs.Words.{Bytes, Full, NoTarget, TooFar}
use Rattle.bz_journal.specs.declared.action.Reply.TheVariants.{Changed, Same, Printed, Moved}
use Rattle.bz_journal.specs.Meaning.{gives, refuses}
use Rattle.bz_journal.specs.History.{History, opened, after_meaning, undone, redone}

abbrev pub WorkedHistories : Type 0
WorkedHistories =
    let a : Bytes = codes "f(name = 'x')\n" in
    let b : Bytes = codes "\n" in
    let c : Bytes = [] in
    let current : Bytes = codes "p" in
    let m : Bytes = codes "delete" in
    let n : Bytes = codes "new f y" in
    let first : History = opened current a in
    let second : History = record { «package» = current; texts = a ∷ b ∷ []; notes = m ∷ []; cursor = 1; before = 0 } in
    let back : History = record { «package» = current; texts = a ∷ b ∷ []; notes = m ∷ []; cursor = 0; before = 1 } in
    let cut : History = record { «package» = current; texts = a ∷ c ∷ []; notes = n ∷ []; cursor = 1; before = 0 } in
    let full : History = record { «package» = current; texts = []; notes = []; cursor = 100000; before = 0 } in
    (after_meaning m first (gives b None) ≡ (Ok Changed, second))
    -- the present text again, with something printed or nothing; a refusal
    × (after_meaning m first (gives a None) ≡ (Ok Same, first))
    × (after_meaning m first (gives a (Some (codes "x\n"))) ≡ (Ok (Printed (codes "x\n")), first))
    × (after_meaning m first (gives a (Some [])) ≡ (Ok (Printed []), first))
    × (after_meaning m first (refuses NoTarget) ≡ (Err NoTarget, first))
    -- back and forward, and by no step
    × (undone 1 second ≡ (Ok Moved, back))
    × (redone 1 back ≡ (Ok Moved, second))
    × (undone 0 second ≡ (Ok Moved, second))
    -- not this many steps
    × (undone 2 second ≡ (Err TooFar, second))
    × (redone 1 second ≡ (Err TooFar, second))
    -- a new text cuts those after the present one with their notes, so there is no way forward
    × (after_meaning n back (gives c None) ≡ (Ok Changed, cut))
    × (redone 1 cut ≡ (Err TooFar, cut))
    -- after the most steps there is no further one
    × (after_meaning m full (gives a None) ≡ (Err Full, full))
