-- What a session's action does is what the history says.
use Rattle.bz_journal.proofs.Words.{◌<◌, ◌≡◌, ◌≤◌, ◌⊎◌, Action, after_meaning, after_text, Answer, ap, arith, Bool, Bytes, bytes_eq, bytes_eq-Decides, Changed, changed, Do, EndsAt, Err, false, Format, gives, HasActed, History, inl, inr, IsFormat, IsOk, IsOverEven, IsSmall, Item, length, List, MakesOrWants, Meaning, Means, Memory, most_steps, nat_lt, nat_tests, Node, None, note_limit, Ok, OnErr, OnOk, Operation, Option, present, printed, Reads, refl, Refusal, refuses, Reply, session_history, session_trail, SessionState, spell_node, subst, Target, true, unchanged, view_of, written}

-- ---- commands, in a history

-- by what a command means in the package and on the text of a history
pub acts_by : (note : Bytes) (operation : Operation) (target : Target) (h : History) (current here : Bytes) (m : Meaning) (answer : Answer) (after : History)
    → current ≡ h.package → here ≡ present h → Means operation target current here m
    → ((answer, after) ≡ after_meaning note h m) ⊎ ((answer ≡ Err Memory) × (after ≡ h)) → MakesOrWants (Do operation target) note h answer after
acts_by note operation target h current here m answer after own is means (inl led) =
    inl (m, subst (λ (c : Bytes). Means operation target c (present h) m) own (subst (λ (text : Bytes). Means operation target current text m) is means), led)
acts_by note operation target h current here m answer after own is means (inr memory) = inr (λ none. none, memory.0, memory.1)

pub acts_refused : (note : Bytes) (operation : Operation) (target : Target) (h : History) (current here : Bytes) (refusal : Refusal) → current ≡ h.package → here ≡ present h
    → Means operation target current here (refuses refusal) ⊎ (refusal ≡ Memory) → MakesOrWants (Do operation target) note h (Err refusal) h
acts_refused note operation target h current here refusal own is (inl means) = acts_by note operation target h current here (refuses refusal) (Err refusal) h own is means (inl refl)
acts_refused note operation target h current here refusal own is (inr memory) = inr (λ none. none, ap Err memory, refl)

pub acts_same : (note : Bytes) (operation : Operation) (target : Target) (h : History) (current here : Bytes) (printed : Option Bytes) (reply : Reply) → current ≡ h.package → here ≡ present h
    → Means operation target current here (gives here printed) → reply ≡ unchanged printed → MakesOrWants (Do operation target) note h (Ok reply) h
acts_same note operation target h current here printed reply own is means replied =
    let same : bytes_eq here (present h) ≡ true = (bytes_eq-Decides here (present h)).1 is in
    let led : ◌≡◌ {A = Answer × History} (Ok reply, h) (after_text note h here printed) = rw (same, replied) refl in
    acts_by note operation target h current here (gives here printed) (Ok reply) h own is means (inl led)

-- ---- formatting

-- the value that was seen of the present text is written, or that is refused
module _ (note : Bytes) (h : History) (tree : Node) (value : List Item) (is : spell_node tree ≡ present h) (reads : Reads (spell_node tree) tree) (seen : value ≡ view_of tree) where
  pub formats_made : (answer : Answer) (after : History) → ((answer, after) ≡ after_meaning note h (written value None)) ⊎ ((answer ≡ Err Memory) × (after ≡ h)) → MakesOrWants Format note h answer after
  formats_made answer after (inl led) = inl (written value None, (tree, subst (λ (t : Bytes). Reads t tree) is reads, ap (λ (xs : List Item). written xs None) seen), led)
  formats_made answer after (inr memory) = inr (λ none. none, memory.0, memory.1)

-- ---- back and forward

not_formatted : (X : Type 0) (action : Action) (answer : Answer) → (IsFormat action → ⊥) → OnOk answer (IsFormat action → X)
not_formatted X action (Ok reply) none = λ is. absurd (none is)
not_formatted X action (Err refusal) none = tt

-- what going does to a session, by its parts
pub has_gone : (action : Action) (note : Bytes) (s : SessionState) (answer : Answer) (t : SessionState) → (IsFormat action → ⊥) → s.cursor < length (session_history s).texts → length note ≤ note_limit
    → MakesOrWants action note (session_history s) answer (session_history t) → OnErr answer (t ≡ s) → (IsOverEven action (session_trail s) → IsOk answer) → (IsSmall (session_trail s) → IsSmall (session_trail t))
    → HasActed action note s answer t
has_gone action note s answer t none within short makes unmoved even small = record {
  within = within;
  acts = inr (short, makes);
  formatted = not_formatted _ action answer none;
  unmoved = unmoved;
  even = λ _. even;
  small = small;
}

-- ---- another text

not_true : (b : Bool) → (b ≡ true → ⊥) → b ≡ false
not_true true none = absurd (none refl)
not_true false none = refl

-- another text is taken up, where there is room
pub ends_changed : (note : Bytes) (s t : SessionState) (text : Bytes) (printed : Option Bytes) → (text ≡ present (session_history s) → ⊥) → s.cursor < most_steps
    → session_history t ≡ changed note (session_history s) text → (IsSmall (session_trail s) → IsSmall (session_trail t)) → EndsAt (after_text note (session_history s) text printed) s (Ok Changed) t
ends_changed note s t text printed other room new small =
    let apart : bytes_eq text (present (session_history s)) ≡ false = not_true _ (λ same. other ((bytes_eq-Decides text (present (session_history s))).0 same)) in
    let below : nat_lt s.cursor most_steps ≡ true = grind (arith, nat_tests) in
    record { made = inl (rw (apart, below, new) refl); unmoved = tt; small = small }
