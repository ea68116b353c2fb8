-- What opening a text gives, by what reading it gave.
use Rattle.bz_journal.proofs.Words.{[], ◌<◌, ◌↔◌, ◌≡◌, ◌≢◌, ◌≤◌, Accepted, Bytes, Err, is_of_leaves, IsFaultAt, IsOfText, IsSmall, length, limit, Ok, opened, OpensText, ReadFault, Result, session_history, session_trail, SessionState, true, ℕ}
use Rattle.std.specs.Str.{IsValidUpTo}
use Rattle.bz_lex.specs.declared.fault.ReadFault.TheVariants.{NotUtf8, TooLarge, Memory}

abbrev AnswersLength : (A : Type 0) → Bytes → Result A ReadFault → Type 0
AnswersLength A text answer = (answer ≡ Err TooLarge) ↔ (limit < length text)

abbrev AnswersCoding : (A : Type 0) → Bytes → Result A ReadFault → Type 0
AnswersCoding A text answer = (at : ℕ) → ((answer ≡ Err (NotUtf8 at)) ↔ ((length text ≤ limit) × IsValidUpTo text at))

module _ {A : Type 0} (current text : Bytes) where
  pub opened_of : (tree : A) (s : SessionState) → AnswersLength A text (Ok tree) → AnswersCoding A text (Ok tree) → Accepted text
      → session_history s ≡ opened current text → IsSmall (session_trail s) → OpensText current text (Ok s)
  opened_of tree s long coded accepted history small = record {
    ok = history;
    small = small;
    accepted = accepted;
    too_large = (λ e. absurd (cc), λ past. let answered = long.1 past in absurd (cc));
    not_utf8 = λ at. (λ e. absurd (cc), λ fails. let answered = (coded at).1 fails in absurd (cc));
    refused = tt;
    placed = tt;
  }

  pub refused_of : (tree : A) → AnswersLength A text (Ok tree) → AnswersCoding A text (Ok tree) → OpensText current text (Err Memory)
  refused_of tree long coded = record {
    ok = tt;
    small = tt;
    accepted = tt;
    too_large = (λ e. absurd (cc), λ past. let answered = long.1 past in absurd (cc));
    not_utf8 = λ at. (λ e. absurd (cc), λ fails. let answered = (coded at).1 fails in absurd (cc));
    refused = λ own. absurd own;
    placed = λ e. absurd (cc);
  }

  pub passed_of : (fault : ReadFault) → AnswersLength A text (Err fault) → AnswersCoding A text (Err fault) → (IsOfText fault → Accepted text → ⊥)
      → (is_of_leaves fault ≡ true → IsFaultAt (λ blanks. blanks ≢ []) text fault) → OpensText current text (Err fault)
  passed_of fault long coded refused placed = record {
    ok = tt;
    small = tt;
    accepted = tt;
    too_large = (λ e. long.0 (cc), λ past. let answered = long.1 past in cc);
    not_utf8 = λ at. (λ e. (coded at).0 (cc), λ fails. let answered = (coded at).1 fails in cc);
    refused = refused;
    placed = placed;
  }
