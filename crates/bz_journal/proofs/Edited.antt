-- What a command on the value beside a session does is what the history says.
use Rattle.bz_journal.proofs.Words.{[], ◌<◌, ◌∙◌, ◌≡◌, ◌⊎◌, after_meaning, Answer, ap, AreBuild, build_grammar, BuildValuesAreProper, Bytes, Do, effect, EffectMeans, EndsAt, Err, gives, GivesAlike, History, IfOk, inl, inr, IsProper, IsProperBuild, IsProperCommand, IsTidyLayoutOf, Item, length, lines_of, List, MakesOrWants, Meaning, Means, Memory, Node, Ok, OnErr, Operation, Option, Overfills, present, printed, printed_answer, Ran, Reads, refl, Refusal, refuses, Reply, Result, RunsIn, session_history, SessionState, spell_node, subst, sym, Target, tidied, unchanged, view_of, written, written_too_large, WrittenIsLaidOut, ℕ}
use Rattle.bz_command.specs.Laws.{EffectsStayProper}
use Rattle.bz_journal.specs.Words.{TooLarge}
use Rattle.bz_journal.proofs.Acting.{acts_by, acts_refused, acts_same}

-- what a command that was read makes of the value of a BUILD file is one
pub made_build : EffectsStayProper → BuildValuesAreProper → (operation : Operation) (target : Target) (current : Bytes) (lines : List ℕ) (items : List Item)
    → IsProperCommand operation → IsProper items → AreBuild items → IfOk (effect operation target current lines items) AreBuild
made_build stay same operation target current lines items command proper build = by_made (effect operation target current lines items) refl
  where
    by_made : (made : Result (List Item) Refusal) → effect operation target current lines items ≡ made → IfOk made AreBuild
    by_made (Ok new) is = ((same new).0 (stay build_grammar operation target current lines items new command ((same items).1 (proper, build)) is)).1
    by_made (Err refusal) is = tt

-- ---- what a command means by its effect on the value that was seen of a tree, and what it prints of that, by lines that give the same as those of the tree

module _ (operation : Operation) (target : Target) (current : Bytes) (tree : Node) (value : List Item) (lines : List ℕ) (reads : Reads (spell_node tree) tree) (seen : value ≡ view_of tree)
    (alike : GivesAlike operation target lines (lines_of tree)) where
  abbrev Made : Result (List Item) Refusal
  Made = effect operation target current lines value

  abbrev Out : Result Bytes Refusal
  Out = printed operation target current lines value

  abbrev Meant : Meaning → Type 0
  Meant = Means operation target current (spell_node tree)

  meant_by : (made : Result (List Item) Refusal) (m : Meaning) → Made ≡ made → EffectMeans made (printed_answer operation Out) value (spell_node tree) m → Meant m
  meant_by made m is means =
      let effects : EffectMeans (effect operation target current (lines_of tree) value) (printed_answer operation Out) value (spell_node tree) m =
      subst (λ (r : Result (List Item) Refusal). EffectMeans r (printed_answer operation Out) value (spell_node tree) m) (sym is ∙ (alike current value).0) means in
      let prints : EffectMeans (effect operation target current (lines_of tree) value) (printed_answer operation (printed operation target current (lines_of tree) value)) value (spell_node tree) m =
      subst (λ (o : Result Bytes Refusal). EffectMeans (effect operation target current (lines_of tree) value) (printed_answer operation o) value (spell_node tree) m) (alike current value).1 effects in
      (tree, reads, subst (λ (xs : List Item). EffectMeans (effect operation target current (lines_of tree) xs) (printed_answer operation (printed operation target current (lines_of tree) xs)) xs (spell_node tree) m) seen prints)

  too_large : (made : Result (List Item) Refusal) (answer : Option Bytes) → Overfills value made → EffectMeans made answer value (spell_node tree) (refuses TooLarge)
  too_large (Err refusal) answer over = absurd over
  too_large (Ok new) answer over = inr (over.0, sym (written_too_large new (tidied new) refl over.1 answer))

  -- a command that is refused, or is past the limit
  pub means_not : (refusal : Refusal) → ((Made ≡ Err refusal) ⊎ (refusal ≡ Memory)) ⊎ ((refusal ≡ TooLarge) × Overfills value Made) → Meant (refuses refusal) ⊎ (refusal ≡ Memory)
  means_not refusal (inl (inl made)) = inl (meant_by (Err refusal) (refuses refusal) made refl)
  means_not refusal (inl (inr memory)) = inr memory
  means_not refusal (inr over) = inl (subst (λ (r : Refusal). Meant (refuses r)) (sym over.0) (meant_by Made (refuses TooLarge) refl (too_large Made (printed_answer operation Out) over.1)))

  answered : (out : Bytes) (answer : Option Bytes) → Out ≡ Ok out → answer ≡ printed_answer operation (Ok out) → answer ≡ printed_answer operation Out
  answered out answer printed_is answer_is = answer_is ∙ sym (ap (printed_answer operation) printed_is)

  -- by what it did to the value in place
  pub means_ran : (new : List Item) (ran : Ran) (answer : Option Bytes) → RunsIn Made Out value (Ok ran) new → (ran.windows ≡ [] → ⊥) → answer ≡ printed_answer operation (Ok ran.printed)
      → Meant (written new answer)
  means_ran new ran answer runs other answer_is =
      meant_by (Ok new) (written new answer) runs.ok (inr (λ same. other (runs.same.1 same), ap (written new) (answered ran.printed answer runs.printed answer_is)))

  -- ---- what it answers beside a session

  module _ (note : Bytes) (h : History) (own : current ≡ h.package) (is : spell_node tree ≡ present h) where
    pub edited_refused : (refusal : Refusal) → ((Made ≡ Err refusal) ⊎ (refusal ≡ Memory)) ⊎ ((refusal ≡ TooLarge) × Overfills value Made) → MakesOrWants (Do operation target) note h (Err refusal) h
    edited_refused refusal not = acts_refused note operation target h current (spell_node tree) refusal own is (means_not refusal not)

    pub edited_same : (new : List Item) (out : Bytes) (answer : Option Bytes) (reply : Reply) → Made ≡ Ok new → new ≡ value → Out ≡ Ok out → answer ≡ printed_answer operation (Ok out)
        → reply ≡ unchanged answer → MakesOrWants (Do operation target) note h (Ok reply) h
    edited_same new out answer reply made same printed_is answer_is replied =
        acts_same note operation target h current (spell_node tree) answer reply own is
        (meant_by (Ok new) (gives (spell_node tree) answer) made (inl (same, ap (gives (spell_node tree)) (answered out answer printed_is answer_is)))) replied

    pub edited_made : (after : History) (new : List Item) (ran : Ran) (answer : Option Bytes) (reply : Answer) → RunsIn Made Out value (Ok ran) new → (ran.windows ≡ [] → ⊥)
        → answer ≡ printed_answer operation (Ok ran.printed)
        → ((reply, after) ≡ after_meaning note h (written new answer)) ⊎ ((reply ≡ Err Memory) × (after ≡ h)) → MakesOrWants (Do operation target) note h reply after
    edited_made after new ran answer reply runs other answer_is led =
        acts_by note operation target h current (spell_node tree) (written new answer) reply after own is (means_ran new ran answer runs other answer_is) led

-- ---- what stays beside the session

-- of a value that was written the tree is the layout
pub value_taken : WrittenIsLaidOut → (items : List Item) (answer : Option Bytes) (note : Bytes) (h after : History) (reply : Reply) (tree : Node)
    → IsProperBuild items → h.cursor < length h.texts
    → (◌≡◌ {A = Answer × History} (Ok reply, after) (after_meaning note h (written items answer))) ⊎ ((◌≡◌ {A = Answer} (Ok reply) (Err Memory)) × (after ≡ h))
    → Reads (spell_node tree) tree → spell_node tree ≡ present after → IsTidyLayoutOf items tree
value_taken laid_out items answer note h after reply tree proper within (inr memory) reads is = let none : ◌≡◌ {A = Answer} (Ok reply) (Err Memory) = memory.0 in absurd (cc)
value_taken laid_out items answer note h after reply tree proper within (inl led) reads is =
    laid_out items answer note h after reply tree proper within led (subst (λ (t : Bytes). Reads t tree) is reads)

-- a session that nothing was done to
pub stays_put : (answer : Answer) (s : SessionState) → OnErr answer (s ≡ s)
stays_put (Ok reply) s = tt
stays_put (Err refusal) s = refl

-- what refuses that a value is written is answered
pub refused_end : (note : Bytes) (s : SessionState) (file : List Item) (printed : Option Bytes) (refusal : Refusal) → ((printed : Option Bytes) → written file printed ≡ refuses refusal) ⊎ (refusal ≡ Memory)
    → EndsAt (after_meaning note (session_history s) (written file printed)) s (Err refusal) s
refused_end note s file printed refusal (inl made) = record { made = inl (sym (ap (after_meaning note (session_history s)) (made printed))); unmoved = refl; small = λ own. own }
refused_end note s file printed refusal (inr memory) = record { made = inr (ap Err memory, refl); unmoved = refl; small = λ own. own }
