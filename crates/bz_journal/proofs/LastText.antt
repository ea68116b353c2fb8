-- What is done to the texts of a file that are kept alone.
use Rattle.bz_journal.proofs.Words.{[], ◌∙◌, ◌∷◌, ◌≡◌, after_text, Answer, ap, arith, Bytes, Do, gives, History, inl, IsKept, length, List, MakesOrWants, Means, Node, Ok, opened, Operation, Option, present, refl, Reply, slice_index_or, spell_node, subst, sym, Target, text_or, ℕ}
use Rattle.bz_journal.proofs.Acting.{acts_by}

-- ---- one text

one_text : (texts : List Bytes) (text : Bytes) → length texts ≡ 1 → text ≡ slice_index_or texts 0 [] → texts ≡ text ∷ []
one_text [] text one is = absurd (omega (arith, one))
one_text (first ∷ []) text one is = ap (λ (t : Bytes). t ∷ []) (sym is)
one_text (first ∷ (second ∷ more)) text one is = absurd (omega (arith, one))

no_notes : (notes : List Bytes) → length notes ≡ 0 → notes ≡ []
no_notes [] none = refl
no_notes (first ∷ more) none = absurd (omega (arith, none))

same_parts : (current : Bytes) (ts us ns ms : List Bytes) (c d b e : ℕ) → ts ≡ us → ns ≡ ms → c ≡ d → b ≡ e
    → ◌≡◌ {A = History} (record { «package» = current; texts = ts; notes = ns; cursor = c; before = b }) (record { «package» = current; texts = us; notes = ms; cursor = d; before = e })
same_parts current ts us ns ms c d b e texts notes cursor before = rw (texts, notes, cursor, before) refl

pub opened_first : (h : History) (text : Bytes) → IsKept h → length h.texts ≡ 1 → text ≡ present h → h ≡ opened h.«package» text
opened_first h text kept one is =
    let cursor : h.cursor ≡ 0 = omega (arith, kept.within, one) in
    let before : h.before ≡ 0 = omega (arith, kept.known, one) in
    let notes : h.notes ≡ [] = no_notes h.notes (omega (arith, kept.noted, one)) in
    let texts : h.texts ≡ text ∷ [] = one_text h.texts text one (is ∙ ap (λ (n : ℕ). slice_index_or h.texts n []) cursor) in
    same_parts h.«package» h.texts (text ∷ []) h.notes [] h.cursor 0 h.before 0 texts notes cursor before

-- ---- a command on one text

pub last_done : (note : Bytes) (operation : Operation) (target : Target) (h after : History) (current own text : Bytes) (tree : Node) (made printed : Option Bytes) (reply : Reply)
    → h ≡ opened own text → text ≡ spell_node tree → current ≡ own
    → Means operation target current (spell_node tree) (gives (text_or (spell_node tree) made) printed)
    → ◌≡◌ {A = Answer × History} (Ok reply, after) (after_text note (opened own text) (text_or text made) printed) → MakesOrWants (Do operation target) note h (Ok reply) after
last_done note operation target h after current own text tree made printed reply is spelled named means led =
    let given : ◌≡◌ {A = Answer × History} (Ok reply, after) (after_text note (opened own text) (text_or (spell_node tree) made) printed) =
    led ∙ ap (λ (t : Bytes). after_text note (opened own text) (text_or t made) printed) spelled in
    acts_by note operation target h current (spell_node tree) (gives (text_or (spell_node tree) made) printed) (Ok reply) after
    (named ∙ sym (ap (λ (g : History). g.«package») is)) (sym spelled ∙ sym (ap present is)) means
    (inl (subst (λ (g : History). ◌≡◌ {A = Answer × History} (Ok reply, after) (after_text note g (text_or (spell_node tree) made) printed)) (sym is) given))
