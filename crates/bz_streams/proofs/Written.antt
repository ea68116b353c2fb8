-- What is on a writer after the parts of a text, one after the other.
use Rattle.bz_streams.proofs.Imported.{[], ◌++◌, ◌+◌, ◌<◌, ◌∙◌, ◌∷◌, ◌≡◌, add-one, AnswersAppends, ap, append-nil, append_assoc, Appends, Appends-nil, Appends-trans, AppendsPart, AppendsSome, AppendsUnlessFailed, arith, drop, drop-cons, Err, get_or, inl, inr, IsErr, IsOk, Keeps, length, length-append, List, None, Ok, OnErr, OnOk, Option, refl, Result, Rises, Some, subst, sym, take, take-append-add, take-append-le, ℕ}

-- what is left at a place is the item there and what is left after it
pub left-cons : {A : Type 0} (items : List A) (at : ℕ) (default : A) → at < length items → drop at items ≡ get_or items at default ∷ drop (at + 1) items
left-cons items at default within = rw (add-one) (drop-cons items at default within)

-- ---- a beginning of one text, or of the one after it, is a beginning of both

pub some_first : (old new : Option (List ℕ)) (first second : List ℕ) → AppendsSome old new first → AppendsSome old new (first ++ second)
some_first old new first second some =
    let within = some.within in
    record {
      count = some.count;
      within = simp length-append (omega (arith, within));
      appends = rw (take-append-le some.count first second within) some.appends;
    }

pub some_second : (old mid new : Option (List ℕ)) (first second : List ℕ) → Appends old mid first → AppendsSome mid new second
    → AppendsSome old new (first ++ second)
some_second old mid new first second whole some =
    let within = some.within in
    record {
      count = length first + some.count;
      within = simp length-append (omega (arith, within));
      appends = rw (take-append-add first second some.count) (Appends-trans old mid new first (take some.count second) whole some.appends);
    }

part_first : (old new : Option (List ℕ)) (first second : List ℕ) → AppendsPart old new first → AppendsPart old new (first ++ second)
part_first old new first second part =
    let below = part.below in
    record {
      count = part.count;
      below = simp length-append (omega (arith, below));
      appends = rw (take-append-le part.count first second (omega (arith, below))) part.appends;
    }

part_second : (old mid new : Option (List ℕ)) (first second : List ℕ) → Appends old mid first → AppendsPart mid new second
    → AppendsPart old new (first ++ second)
part_second old mid new first second whole part =
    let below = part.below in
    record {
      count = length first + part.count;
      below = simp length-append (omega (arith, below));
      appends = rw (take-append-add first second part.count) (Appends-trans old mid new first (take part.count second) whole part.appends);
    }

-- ---- an answer that says what was written

pub answered : {T E : Type 0} (answer : Result T E) (f g : ℕ) (old new : Option (List ℕ)) (bytes : List ℕ) → OnOk answer (Appends old new bytes)
    → OnErr answer (AppendsPart old new bytes) → (IsErr answer → Rises f g) → (IsOk answer → g ≡ f) → AnswersAppends answer f g old new bytes
answered (Ok x) f g old new bytes ok part cause steady = (steady refl, ok)
answered (Err e) f g old new bytes ok part cause steady = (cause refl, part)

pub told : {T E : Type 0} (answer : Result T E) (f g : ℕ) (old new : Option (List ℕ)) (bytes : List ℕ) → AnswersAppends answer f g old new bytes
    → AppendsUnlessFailed f g old new bytes
told (Ok x) f g old new bytes whole = inl whole
told (Err e) f g old new bytes failed = inr failed

pub first_cut : (f g : ℕ) (old new : Option (List ℕ)) (first second : List ℕ) → Rises f g × AppendsPart old new first → Rises f g × AppendsPart old new (first ++ second)
first_cut f g old new first second failed = (failed.0, part_first old new first second failed.1)

pub both_answered : {T E : Type 0} (answer : Result T E) (f m g : ℕ) (old mid new : Option (List ℕ)) (first second : List ℕ) → (m ≡ f) × Appends old mid first
    → AnswersAppends answer m g mid new second → AnswersAppends answer f g old new (first ++ second)
both_answered (Ok x) f m g old mid new first second whole last = (last.0 ∙ whole.0, Appends-trans old mid new first second whole.1 last.1)
both_answered (Err e) f m g old mid new first second whole failed =
    (subst (λ (n : ℕ). Rises n g) whole.0 failed.0, part_second old mid new first second whole.1 failed.1)

pub nothing_below : (f g : ℕ) (old new : Option (List ℕ)) (bytes : List ℕ) → AppendsUnlessFailed f g old new (bytes ++ [])
    → AppendsUnlessFailed f g old new bytes
nothing_below f g old new bytes = subst (AppendsUnlessFailed f g old new) (append-nil bytes)

-- ---- a loop that writes the rest of a text

-- the front was written and this is left, and no write failed
pub record SoFar (f g : ℕ) (old now : Option (List ℕ)) (bytes left : List ℕ) : Type 0 where
  pub front : List ℕ
  pub split : bytes ≡ front ++ left
  pub appends : Appends old now front
  pub steady : g ≡ f

pub begins : (f : ℕ) (old : Option (List ℕ)) (bytes : List ℕ) → SoFar f f old old bytes bytes
begins f old bytes = record { front = []; split = refl; appends = Appends-nil old; steady = refl }

pub goes_on : {f m g : ℕ} {old mid new : Option (List ℕ)} {bytes left : List ℕ} (piece rest : List ℕ) → SoFar f m old mid bytes left → left ≡ piece ++ rest
    → (g ≡ m) × Appends mid new piece → SoFar f g old new bytes rest
goes_on {old} {mid} {new} piece rest so split whole = record {
  front = so.front ++ piece;
  split = so.split ∙ ap (λ (it : List ℕ). so.front ++ it) split ∙ sym (append_assoc so.front piece rest);
  appends = Appends-trans old mid new so.front piece so.appends whole.1;
  steady = whole.0 ∙ so.steady;
}

pub ended : {T E : Type 0} (answer : Result T E) {f m : ℕ} (g : ℕ) {old mid : Option (List ℕ)} (new : Option (List ℕ)) {bytes left : List ℕ}
    → SoFar f m old mid bytes left → AnswersAppends answer m g mid new left → AnswersAppends answer f g old new bytes
ended answer {f} {m} g {old} {mid} new {left} so last =
    subst (AnswersAppends answer f g old new) (sym so.split) (both_answered answer f m g old mid new so.front left (so.steady, so.appends) last)

pub stops : {f m g : ℕ} {old mid new : Option (List ℕ)} {bytes left : List ℕ} (piece rest : List ℕ) → SoFar f m old mid bytes left → left ≡ piece ++ rest
    → Rises m g × AppendsPart mid new piece → Rises f g × AppendsPart old new bytes
stops {m} {g} {mid} {new} piece rest so split failed =
    let answer : Result ℕ ℕ = Err 0 in
    ended answer g new so (subst (AnswersAppends answer m g mid new) (sym split) (first_cut m g mid new piece rest failed))

pub all_written : {f g : ℕ} {old now : Option (List ℕ)} {bytes left : List ℕ} → SoFar f g old now bytes left → left ≡ [] → (g ≡ f) × Appends old now bytes
all_written {old} {now} so none =
    (so.steady, subst (Appends old now) (sym (so.split ∙ ap (λ (it : List ℕ). so.front ++ it) none ∙ append-nil so.front)) so.appends)

-- something is left, and a write that failed added nothing
pub cut_off : {f m : ℕ} {old mid now : Option (List ℕ)} {bytes left : List ℕ} → SoFar f m old mid bytes left → 0 < length left → Keeps mid now
    → AppendsPart old now bytes
cut_off {old} {mid} {now} {left} so some keeps =
    subst (AppendsPart old now) (sym so.split)
    (part_second old mid now so.front left so.appends (record { count = 0; below = some; appends = none mid now keeps }))
  where
    none : (m n : Option (List ℕ)) → Keeps m n → Appends m n []
    none None n keeps = tt
    none (Some xs) None keeps = absurd keeps
    none (Some xs) (Some ys) keeps = keeps ∙ sym (append-nil xs)

pub part_is_some : {old now : Option (List ℕ)} {bytes : List ℕ} → AppendsPart old now bytes → AppendsSome old now bytes
part_is_some part = let below = part.below in record { count = part.count; within = omega (arith, below); appends = part.appends }
