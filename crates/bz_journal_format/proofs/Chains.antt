-- Readers that are exact: what they read is spelled so and fits, and what fits is read from its spelling, whatever follows it.
use Rattle.bz_journal_format.proofs.Words.{[], ◌++◌, ◌>>=◌, ◌∙◌, ◌∷◌, ◌≡◌, after_mark, AllByRecursion, ap, append-nil, append_assoc, arith, bytes_eq, bytes_eq-Decides, cond_some, drop, drop_at, flat_map, IsExact, length, List, None, Option, Reader, refl, repeated, same_Some, Some, subst, suc, sym, take, take-append-drop, take_at, true, zero, ℕ}

-- ---- what a chain of steps gives

pub bind_some : {A B : Type 0} (o : Option A) (f : A → Option B) (y : B) → (o >>= f) ≡ Some y → (x : A) × (o ≡ Some x) × (f x ≡ Some y)
bind_some None f y e = absurd cc
bind_some (Some x) f y e = (x, refl, e)

abbrev pub read_so : {X : Type 0} → X → List ℕ → Option (X × List ℕ)
read_so x rest = Some (x, rest)

pub same_read : {X : Type 0} (a x : X) (b y : List ℕ) → read_so a b ≡ read_so x y → (a ≡ x) × (b ≡ y)
same_read a x b y e = let f = same_Some (a, b) (x, y) e in (ap (λ p. p.0) f, ap (λ p. p.1) f)

-- no two things that fit have one spelling, nor does the spelling of one begin that of another
pub one_reading : {X : Type 0} {spell : X → List ℕ} {P : X → Type 0} {read : Reader X} → IsExact X spell P read
    → (x y : X) (a b : List ℕ) → P x → P y → spell x ++ a ≡ spell y ++ b → (x ≡ y) × (a ≡ b)
one_reading {read = read} exact x y a b p q e = same_read x y a b (sym (exact.complete x a p) ∙ ap read e ∙ exact.complete y b q)

-- where nothing is read, nothing that fits is there
pub none_there : {X : Type 0} {spell : X → List ℕ} {P : X → Type 0} {read : Reader X} → IsExact X spell P read
    → (s : List ℕ) → read s ≡ None → (x : X) (rest : List ℕ) → P x → s ≡ spell x ++ rest → ⊥
none_there {read = read} exact s n x rest p e = let f : None ≡ read_so x rest = sym n ∙ ap read e ∙ exact.complete x rest p in cc

-- ---- nothing more to read, a mark, and one thing after the other

pub done_exact : {X : Type 0} (made : X) → IsExact X (λ x. []) (λ x. x ≡ made) (λ s. Some (made, s))
done_exact made = record {
  sound = λ s x rest e. let f = same_read made x s rest e in (sym f.0, f.1);
  complete = λ x rest e. rw e refl;
}

pub then_exact : {A X : Type 0} (f : X → A) (sa : A → List ℕ) (PA : A → Type 0) (ra : Reader A) (sx : X → List ℕ) (PX : A → X → Type 0) (go : A → Reader X)
    → ((a : A) (x : X) → PX a x → f x ≡ a) → IsExact A sa PA ra → ((a : A) → IsExact X sx (PX a) (go a))
    → IsExact X (λ x. sa (f x) ++ sx x) (λ x. PA (f x) × PX (f x) x) (λ s. ra s >>= λ r. go r.0 r.1)
then_exact {A = A} {X = X} f sa PA ra sx PX go of one rest_of = record {
  sound = λ s x rest e.
      let b = bind_some (ra s) (λ r. go r.0 r.1) (x, rest) e in
      let p = one.sound s b.0.0 b.0.1 b.1 in
      let q = (rest_of b.0.0).sound b.0.1 x rest b.2 in
      let same : b.0.0 ≡ f x = sym (of b.0.0 x q.0) in
      let fits : PA (f x) × PX (f x) x = subst (λ (a : A). PA a × PX a x) same (p.0, q.0) in
      let spelled : s ≡ sa (f x) ++ (sx x ++ rest) = p.1 ∙ ap (λ t. sa b.0.0 ++ t) q.1 ∙ ap (λ (a : A). sa a ++ (sx x ++ rest)) same in
      (fits, spelled ∙ sym (append_assoc (sa (f x)) (sx x) rest));
  complete = λ x rest p.
      let first = one.complete (f x) (sx x ++ rest) p.0 in
      let second = (rest_of (f x)).complete x rest p.1 in
      ap (λ s. ra s >>= λ r. go r.0 r.1) (append_assoc (sa (f x)) (sx x) rest) ∙ ap (λ o. o >>= λ r. go r.0 r.1) first ∙ second;
}

-- the same things by another spelling and another word for what fits
pub so : {X : Type 0} {sa sb : X → List ℕ} {P Q : X → Type 0} {read : Reader X}
    → ((x : X) → sa x ≡ sb x) → ((x : X) → P x → Q x) → ((x : X) → Q x → P x) → IsExact X sa P read → IsExact X sb Q read
so {sa = sa} {sb = sb} {read = read} spelled to from exact = record {
  sound = λ s x rest e. let p = exact.sound s x rest e in (to x p.0, p.1 ∙ ap (λ t. t ++ rest) (spelled x));
  complete = λ x rest q. ap (λ t. read (t ++ rest)) (sym (spelled x)) ∙ exact.complete x rest (from x q);
}

-- ---- marks

pub after_own : (mark s : List ℕ) → after_mark mark (mark ++ s) ≡ Some s
unfolding after_mark
after_own mark s =
    let front = take_at mark s (length mark) refl in
    let back = drop_at mark s (length mark) refl in
    let same : bytes_eq mark mark ≡ true = (bytes_eq-Decides mark mark).1 refl in
    rw (front, back, same) refl

pub after_answered : (mark s r : List ℕ) → after_mark mark s ≡ Some r → s ≡ mark ++ r
unfolding after_mark
after_answered mark s r e =
    let f = cond_some (bytes_eq (take (length mark) s) mark) (drop (length mark) s) r e in
    let front : take (length mark) s ≡ mark = (bytes_eq-Decides (take (length mark) s) mark).0 f.0 in
    sym (take-append-drop (length mark) s) ∙ ap (λ t. t ++ drop (length mark) s) front ∙ ap (λ t. mark ++ t) f.1

pub mark_exact : {X : Type 0} (mark : List ℕ) (sx : X → List ℕ) (P : X → Type 0) (go : Reader X) → IsExact X sx P go → IsExact X (λ x. mark ++ sx x) P (λ s. after_mark mark s >>= go)
mark_exact {X = X} mark sx P go exact = record {
  sound = λ s x rest e.
      let b = bind_some (after_mark mark s) go (x, rest) e in
      let q = exact.sound b.0 x rest b.2 in
      let spelled : s ≡ mark ++ (sx x ++ rest) = after_answered mark s b.0 b.1 ∙ ap (λ t. mark ++ t) q.1 in
      (q.0, spelled ∙ sym (append_assoc mark (sx x) rest));
  complete = λ x rest p.
      ap (λ s. after_mark mark s >>= go) (append_assoc mark (sx x) rest) ∙ ap (λ o. o >>= go) (after_own mark (sx x ++ rest)) ∙ exact.complete x rest p;
}

-- a mark alone, after what is made
pub last_exact : {X : Type 0} (mark : List ℕ) (made : X) → IsExact X (λ x. mark) (λ x. x ≡ made) (λ s. after_mark mark s >>= λ r. Some (made, r))
last_exact {X = X} mark made = so (λ x. append-nil mark) (λ x p. p) (λ x p. p) (mark_exact mark (λ x. []) (λ x. x ≡ made) (λ r. Some (made, r)) (done_exact made))

-- ---- several

abbrev pub AreAll : {X : Type 0} → (X → Type 0) → ℕ → List X → Type 0
AreAll P n xs = (length xs ≡ n) × AllByRecursion P xs

module _ {X : Type 0} (spell : X → List ℕ) (P : X → Type 0) (go : Reader X) (exact : IsExact X spell P go) where
  repeated_sound : (n : ℕ) (s : List ℕ) (xs : List X) (rest : List ℕ) → repeated go n s ≡ Some (xs, rest) → AreAll P n xs × (s ≡ flat_map spell xs ++ rest)
  unfolding repeated
  repeated_sound zero s xs rest e =
      let f = same_read [] xs s rest e in
      subst (λ (r : List X × List ℕ). AreAll P 0 r.0 × (s ≡ flat_map spell r.0 ++ r.1)) (ap (λ (t : List X). (t, rest)) f.0) ((refl, tt), f.1)
  repeated_sound (suc n) s xs rest e =
      let b = bind_some (go s) (λ x. repeated go n x.1 >>= λ y. Some (x.0 ∷ y.0, y.1)) (xs, rest) e in
      let c = bind_some (repeated go n b.0.1) (λ y. Some (b.0.0 ∷ y.0, y.1)) (xs, rest) b.2 in
      let f = same_read (b.0.0 ∷ c.0.0) xs c.0.1 rest c.2 in
      let p = exact.sound s b.0.0 b.0.1 b.1 in
      let q = repeated_sound n b.0.1 c.0.0 c.0.1 c.1 in
      let spelled : s ≡ spell b.0.0 ++ (flat_map spell c.0.0 ++ c.0.1) = p.1 ∙ ap (λ t. spell b.0.0 ++ t) q.1 in
      let whole : s ≡ flat_map spell (b.0.0 ∷ c.0.0) ++ rest = spelled ∙ sym (append_assoc (spell b.0.0) (flat_map spell c.0.0) c.0.1) ∙ ap (λ t. flat_map spell (b.0.0 ∷ c.0.0) ++ t) f.1 in
      subst (λ (ys : List X). AreAll P (suc n) ys × (s ≡ flat_map spell ys ++ rest)) f.0 ((ap suc q.0.0, (p.0, q.0.1)), whole)

  repeated_complete : (n : ℕ) (xs : List X) (rest : List ℕ) → AreAll P n xs → repeated go n (flat_map spell xs ++ rest) ≡ Some (xs, rest)
  unfolding repeated
  repeated_complete zero [] rest e = refl
  repeated_complete (suc n) [] rest e = absurd (omega (arith, e.0))
  repeated_complete zero (x ∷ xs) rest e = absurd (omega (arith, e.0))
  repeated_complete (suc n) (x ∷ xs) rest e =
      let p = exact.complete x (flat_map spell xs ++ rest) e.1.0 in
      let len : length xs ≡ n = omega (arith, e.0) in
      let q = repeated_complete n xs rest (len, e.1.1) in
      ap (repeated go (suc n)) (append_assoc (spell x) (flat_map spell xs) rest)
      ∙ ap (λ o. o >>= λ r. repeated go n r.1 >>= λ y. Some (r.0 ∷ y.0, y.1)) p
      ∙ ap (λ o. o >>= λ (y : List X × List ℕ). Some (x ∷ y.0, y.1)) q

  pub repeated_exact : (n : ℕ) → IsExact (List X) (flat_map spell) (AreAll P n) (repeated go n)
  repeated_exact n = record { sound = repeated_sound n; complete = repeated_complete n }
