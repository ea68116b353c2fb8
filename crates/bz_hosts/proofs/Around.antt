-- Which regions of a text a gap sees: those that end before it or begin after it change nothing.
use Rattle.bz_hosts.proofs.Words.{[], ◌&&◌, ◌++◌, ◌<◌, ◌∙◌, ◌∷◌, ◌≡◌, ◌≢◌, ◌≤◌, AllByRecursion, ap, arith, beginning_in, between, Bool, cases_Bool, ending_at, eq-eqb, false, holds_gap, host, if◌then◌else◌, inl, innermost, inr, le-ltb, List, lt-ltb, nat_eq, nat_le, nat_lt, nat_tests, ne_eqb, None, Option, refl, Region, Some, suc, ℕ}

-- ---- regions between two numbers

abbrev pub Inside : ℕ → ℕ → Region → Type 0
Inside lo up (host first following next) = (lo ≤ first) × (first < following) × (following ≤ next) × (next < up)
Inside lo up (between open_break following) = (lo ≤ open_break) × (following ≤ up)

abbrev pub AllInside : ℕ → ℕ → List Region → Type 0
AllInside lo up rs = AllByRecursion (Inside lo up) rs

wider : (lo up lo' up' : ℕ) → lo' ≤ lo → up ≤ up' → (r : Region) → Inside lo up r → Inside lo' up' r
wider lo up lo' up' l u (host first following next) h = (omega (arith, h.0), h.1, h.2, omega (arith, h.3))
wider lo up lo' up' l u (between open_break following) h = (omega (arith, h.0), omega (arith, h.1))

pub all_wider : (lo up lo' up' : ℕ) → lo' ≤ lo → up ≤ up' → (rs : List Region) → AllInside lo up rs → AllInside lo' up' rs
all_wider lo up lo' up' l u [] h = tt
all_wider lo up lo' up' l u (r ∷ rs) h = (wider lo up lo' up' l u r h.0, all_wider lo up lo' up' l u rs h.1)

-- ---- a gap that is apart from a region

abbrev Silent : ℕ → Region → Type 0
Silent m (host first following next) = (holds_gap m (host first following next) ≡ false) × (nat_eq next m ≡ false)
Silent m (between open_break following) = (holds_gap m (between open_break following) ≡ false) × Unit {0}

not_below : (a m b : ℕ) → m ≤ a → (nat_lt a m && nat_lt m b) ≡ false
not_below a m b h = ap (λ t. t && nat_lt m b) (le-ltb a m h)

not_above : (a m b : ℕ) → b ≤ m → (nat_lt a m && nat_lt m b) ≡ false
not_above a m b h = elim (cases_Bool (nat_lt a m)) [ inl e ↦ rw e (le-ltb m b h) | inr e ↦ rw e refl ]

silent_ahead : (lo up m : ℕ) → m ≤ lo → (r : Region) → Inside lo up r → Silent m r
silent_ahead lo up m l (host first following next) h = (not_below first m following (omega (arith, h.0)), ne_eqb next m (omega (arith, h.0, h.1, h.2)))
silent_ahead lo up m l (between open_break following) h = (not_below open_break m following (omega (arith, h.0)), tt)

silent_passed : (lo up m : ℕ) → up ≤ m → (r : Region) → Inside lo up r → Silent m r
silent_passed lo up m l (host first following next) h = (not_above first m following (omega (arith, h.2, h.3)), ne_eqb next m (omega (arith, h.3)))
silent_passed lo up m l (between open_break following) h = (not_above open_break m following (omega (arith, h.1)), tt)

all_silent : (lo up m : ℕ) → ((r : Region) → Inside lo up r → Silent m r) → (rs : List Region) → AllInside lo up rs → AllByRecursion (Silent m) rs
all_silent lo up m f [] h = tt
all_silent lo up m f (r ∷ rs) h = (f r h.0, all_silent lo up m f rs h.1)

silent_held : (m : ℕ) (r : Region) → Silent m r → holds_gap m r ≡ false
silent_held m (host first following next) h = h.0
silent_held m (between open_break following) h = h.0

innermost_silent : (m : ℕ) (found : Option Region) (rs : List Region) → AllByRecursion (Silent m) rs → innermost m found rs ≡ found
innermost_silent m found [] h = refl
innermost_silent m found (r ∷ rs) h = rw (silent_held m r h.0) (innermost_silent m found rs h.1)

innermost_joined : (m : ℕ) (found : Option Region) (rs rs' : List Region) → innermost m found (rs ++ rs') ≡ innermost m (innermost m found rs) rs'
innermost_joined m found [] rs' = refl
innermost_joined m found (r ∷ rs) rs' = innermost_joined m (if holds_gap m r then Some r else found) rs rs'

ending_passed : (m : ℕ) (rs rs' : List Region) → AllByRecursion (Silent m) rs → ending_at m (rs ++ rs') ≡ ending_at m rs'
ending_passed m [] rs' h = refl
ending_passed m (host first following next ∷ rs) rs' h = rw h.0.1 (ending_passed m rs rs' h.1)
ending_passed m (between open_break following ∷ rs) rs' h = ending_passed m rs rs' h.1

ending_silent : (m : ℕ) (rs : List Region) → AllByRecursion (Silent m) rs → ending_at m rs ≡ None
ending_silent m [] h = refl
ending_silent m (host first following next ∷ rs) h = rw h.0.1 (ending_silent m rs h.1)
ending_silent m (between open_break following ∷ rs) h = ending_silent m rs h.1

ending_ahead : (m : ℕ) (rs rs' : List Region) → AllByRecursion (Silent m) rs' → ending_at m (rs ++ rs') ≡ ending_at m rs
ending_ahead m [] rs' h = ending_silent m rs' h
ending_ahead m (host first following next ∷ rs) rs' h = elim (cases_Bool (nat_eq next m)) [ inl e ↦ rw e refl | inr e ↦ rw e (ending_ahead m rs rs' h) ]
ending_ahead m (between open_break following ∷ rs) rs' h = ending_ahead m rs rs' h

-- ---- the item that begins next

beginning_passed : (m b lo up : ℕ) → up ≤ m → (rs rs' : List Region) → AllInside lo up rs → beginning_in m b (rs ++ rs') ≡ beginning_in m b rs'
beginning_passed m b lo up l [] rs' h = refl
beginning_passed m b lo up l (host first following next ∷ rs) rs' h =
    let e : nat_le m first ≡ false = grind (arith, nat_tests, h.0.1, h.0.2, h.0.3) in
    rw e (beginning_passed m b lo up l rs rs' h.1)
beginning_passed m b lo up l (between open_break following ∷ rs) rs' h = beginning_passed m b lo up l rs rs' h.1

beginning_late : (m b first : ℕ) → b ≤ first → (nat_le m first && nat_lt first b) ≡ false
beginning_late m b first h = elim (cases_Bool (nat_le m first)) [ inl e ↦ rw e (le-ltb first b h) | inr e ↦ rw e refl ]

-- no host of these begins before b
abbrev Late : ℕ → Region → Type 0
Late b (host first following next) = b ≤ first
Late b (between open_break following) = Unit {0}

all_late : (b lo up : ℕ) → b ≤ lo → (rs : List Region) → AllInside lo up rs → AllByRecursion (Late b) rs
all_late b lo up l [] h = tt
all_late b lo up l (host first following next ∷ rs) h = (omega (arith, h.0.0), all_late b lo up l rs h.1)
all_late b lo up l (between open_break following ∷ rs) h = (tt, all_late b lo up l rs h.1)

beginning_none : (m b hi : ℕ) → b ≤ hi → (rs : List Region) → AllByRecursion (Late hi) rs → beginning_in m b rs ≡ None
beginning_none m b hi l [] h = refl
beginning_none m b hi l (host first following next ∷ rs) h = rw (beginning_late m b first (omega (arith, h.0))) (beginning_none m b hi l rs h.1)
beginning_none m b hi l (between open_break following ∷ rs) h = beginning_none m b hi l rs h.1

beginning_ahead : (m b hi : ℕ) → b ≤ hi → (rs rs' : List Region) → AllByRecursion (Late hi) rs' → beginning_in m b (rs ++ rs') ≡ beginning_in m b rs
beginning_ahead m b hi l [] rs' h = beginning_none m b hi l rs' h
beginning_ahead m b hi l (host first following next ∷ rs) rs' h =
    let t : Bool = nat_le m first && nat_lt first b in
    elim (cases_Bool t) [ inl e ↦ rw e refl | inr e ↦ rw e (beginning_ahead m b hi l rs rs' h) ]
beginning_ahead m b hi l (between open_break following ∷ rs) rs' h = beginning_ahead m b hi l rs rs' h

-- ---- what a gap sees of all regions

-- Of all regions a gap sees no more than these, where found is the innermost before them and no place after hi is looked up.
pub record Sees (all : List Region) (m : ℕ) (found : Option Region) (hi : ℕ) (rs : List Region) : Type 0 where
  pub inner : innermost m None all ≡ innermost m found rs
  pub ends : ending_at m all ≡ ending_at m rs
  pub begins : (b : ℕ) → b ≤ hi → beginning_in m b all ≡ beginning_in m b rs

-- The gap in which a host ends: of the regions these are left for what begins next.
pub record Ended (all : List Region) (m first : ℕ) (found : Option Region) (hi : ℕ) (rs : List Region) : Type 0 where
  pub ends : ending_at m all ≡ Some first
  pub inner : innermost m None all ≡ found
  pub begins : beginning_in m hi all ≡ beginning_in m hi rs

-- From n on, up to a leaf, gaps see no more than these.
abbrev pub SeesAt : List Region → Option Region → ℕ → ℕ → List Region → Type 0
SeesAt all found n up rs = (m : ℕ) → n ≤ m → m < up → Sees all m found up rs

module _ (all : List Region) (m : ℕ) (found : Option Region) (hi : ℕ) where
  pub sees_after : (lo up : ℕ) (rs rs' : List Region) → AllInside lo up rs → up ≤ m → Sees all m found hi (rs ++ rs') → Sees all m found hi rs'
  sees_after lo up rs rs' i l h =
      let q : AllByRecursion (Silent m) rs = all_silent lo up m (silent_passed lo up m l) rs i in
      record {
        inner = h.inner ∙ (innermost_joined m found rs rs' ∙ ap (λ z. innermost m z rs') (innermost_silent m found rs q));
        ends = h.ends ∙ ending_passed m rs rs' q;
        begins = λ b k. h.begins b k ∙ beginning_passed m b lo up l rs rs' i;
      }

  without : (hi' : ℕ) (rs rs' : List Region) → AllByRecursion (Silent m) rs' → AllByRecursion (Late hi') rs' → hi' ≤ hi → Sees all m found hi (rs ++ rs') → Sees all m found hi' rs
  without hi' rs rs' q d j h = record {
    inner = h.inner ∙ (innermost_joined m found rs rs' ∙ innermost_silent m (innermost m found rs) rs' q);
    ends = h.ends ∙ ending_ahead m rs rs' q;
    begins = λ b v. h.begins b (omega arith) ∙ beginning_ahead m b hi' v rs rs' d;
  }

  pub sees_before : (lo up hi' : ℕ) (rs rs' : List Region) → AllInside lo up rs' → m ≤ lo → hi' ≤ lo → hi' ≤ hi → Sees all m found hi (rs ++ rs') → Sees all m found hi' rs
  sees_before lo up hi' rs rs' i l k j h = without hi' rs rs' (all_silent lo up m (silent_ahead lo up m l) rs' i) (all_late hi' lo up k rs' i) j h

  -- before a sequence that opens at o
  pub sees_before_bracket : (o following up hi' : ℕ) (rs rs' : List Region) → AllInside (suc o) up rs' → m ≤ o → hi' ≤ suc o → hi' ≤ hi → Sees all m found hi (rs ++ between o following ∷ rs') → Sees all m found hi' rs
  sees_before_bracket o following up hi' rs rs' i l k j h = without hi' rs (between o following ∷ rs') ((not_below o m following l, tt), all_silent (suc o) up m (silent_ahead (suc o) up m (omega arith)) rs' i) (tt, all_late hi' (suc o) up k rs' i) j h

  pub sees_in_host : (first following next : ℕ) (rs : List Region) → first < m → m < following → following ≤ next → Sees all m found hi (host first following next ∷ rs) → Sees all m (Some (host first following next)) hi rs
  sees_in_host first following next rs l u v h = record {
    inner = h.inner ∙ rw (lt-ltb first m l, lt-ltb m following u) refl;
    ends = h.ends ∙ rw (ne_eqb next m (omega arith)) refl;
    begins = λ b k. let e : nat_le m first ≡ false = grind (arith, nat_tests) in h.begins b k ∙ rw e refl;
  }

  pub sees_past_host : (first following next : ℕ) (rs : List Region) → first < m → following ≤ m → next ≢ m → Sees all m found hi (host first following next ∷ rs) → Sees all m found hi rs
  sees_past_host first following next rs l u v h = record {
    inner = h.inner ∙ rw (not_above first m following u) refl;
    ends = h.ends ∙ rw (ne_eqb next m v) refl;
    begins = λ b k. let e : nat_le m first ≡ false = grind (arith, nat_tests) in h.begins b k ∙ rw e refl;
  }

  pub sees_in_sequence : (open_break following : ℕ) (rs : List Region) → open_break < m → m < following → Sees all m found hi (between open_break following ∷ rs) → Sees all m (Some (between open_break following)) hi rs
  sees_in_sequence open_break following rs l u h = record {
    inner = h.inner ∙ rw (lt-ltb open_break m l, lt-ltb m following u) refl;
    ends = h.ends;
    begins = h.begins;
  }

  -- where the region before ends: none but the sequence around it is seen
  pub sees_ended : (first following lo up : ℕ) (rs rs' : List Region) → first < m → following ≤ m → m ≤ hi → AllInside first following rs → AllInside lo up rs' → m ≤ lo → Sees all m found hi (host first following m ∷ (rs ++ rs')) → Ended all m first found hi rs'
  sees_ended first following lo up rs rs' l u v i j k h =
      let q : AllByRecursion (Silent m) rs = all_silent first following m (silent_passed first following m u) rs i in
      let q' : AllByRecursion (Silent m) rs' = all_silent lo up m (silent_ahead lo up m k) rs' j in
      let e : nat_le m first ≡ false = grind (arith, nat_tests) in
      record {
        ends = h.ends ∙ rw (eq-eqb m m refl) refl;
        inner = h.inner ∙ (ap (λ (t : Bool). innermost m (if t then Some (host first following m) else found) (rs ++ rs')) (not_above first m following u) ∙
            (innermost_joined m found rs rs' ∙ (ap (λ z. innermost m z rs') (innermost_silent m found rs q) ∙ innermost_silent m found rs' q')));
        begins = h.begins hi (omega arith) ∙ rw e (beginning_passed m hi first following u rs rs' i);
      }
