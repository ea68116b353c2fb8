-- What is written of a value: the layout of it tidied.
use Rattle.bz_build_format.proofs.Words.{◌<◌, ◌∙◌, ◌≡◌, ◌≤◌, ap, arith, Bool, Bytes, depth_limit, depth_of, false, gives, if◌then◌else◌, Item, laid_out, layout, length, limit, List, ltb-false, Meaning, nat_lt, nat_tests, Option, refl, refuses, subst, sym, tidied, true, written, ℕ}
use Rattle.bz_value.specs.declared.refusal.Refusal.TheVariants.{TooLarge, TooDeep}

abbrev pub limited : ℕ → Bytes → Option Bytes → Meaning
limited depth text printed = if nat_lt limit (length text) then refuses TooLarge else (if nat_lt depth_limit depth then refuses TooDeep else gives text printed)

fitting : (depth : ℕ) (text : Bytes) (printed : Option Bytes) → length text ≤ limit → depth ≤ depth_limit → limited depth text printed ≡ gives text printed
fitting depth text printed h d =
    let within : nat_lt limit (length text) ≡ false = grind (arith, nat_tests) in
    let shallow : nat_lt depth_limit depth ≡ false = grind (arith, nat_tests) in
    rw (within, shallow)

-- Below, `tidy` is the value that was tidied.
pub written_too_large : (items tidy : List Item) → tidy ≡ tidied items → limit < length (layout tidy) → (printed : Option Bytes) → written items printed ≡ refuses TooLarge
written_too_large items tidy is h printed =
    let over : nat_lt limit (length (layout (tidied items))) ≡ true = subst (λ (xs : List Item). nat_lt limit (length (layout xs)) ≡ true) is (grind (arith, nat_tests)) in rw over refl

pub written_too_deep : (items tidy : List Item) → tidy ≡ tidied items → length (layout tidy) ≤ limit → depth_limit < depth_of (laid_out tidy) → (printed : Option Bytes) → written items printed ≡ refuses TooDeep
written_too_deep items tidy is h d printed =
    let within : nat_lt limit (length (layout (tidied items))) ≡ false = subst (λ (xs : List Item). nat_lt limit (length (layout xs)) ≡ false) is (grind (arith, nat_tests)) in
    let over : nat_lt depth_limit (depth_of (laid_out (tidied items))) ≡ true = subst (λ (xs : List Item). nat_lt depth_limit (depth_of (laid_out xs)) ≡ true) is (grind (arith, nat_tests)) in
    rw (within, over) refl

-- the text that the writer gives
pub written_given : (items tidy : List Item) (text : Bytes) → tidy ≡ tidied items → text ≡ layout tidy → length (layout tidy) ≤ limit → depth_of (laid_out tidy) ≤ depth_limit
    → (printed : Option Bytes) → written items printed ≡ gives text printed
written_given items tidy text tidy_is text_is long deep printed =
    ap (λ (xs : List Item). limited (depth_of (laid_out xs)) (layout xs) printed) (sym tidy_is)
    ∙ fitting (depth_of (laid_out tidy)) (layout tidy) printed long deep ∙ ap (λ (t : Bytes). gives t printed) (sym text_is)

-- ---- what is known where a text is given

pub record IsGiven (items : List Item) (text : Bytes) (requested printed : Option Bytes) : Type 0 where
  pub layout_is : text ≡ layout (tidied items)
  pub same : printed ≡ requested
  pub long : length (layout (tidied items)) ≤ limit
  pub deep : depth_of (laid_out (tidied items)) ≤ depth_limit

-- what the tests say where a text is given
within : (long deep : Bool) (all text : Bytes) (requested printed : Option Bytes)
    → (if long then refuses TooLarge else (if deep then refuses TooDeep else gives all requested)) ≡ gives text printed → (long ≡ false) × (deep ≡ false)
within true deep all text requested printed e = absurd cc
within false true all text requested printed e = absurd cc
within false false all text requested printed e = (refl, refl)

limits : (depth : ℕ) (all text : Bytes) (requested printed : Option Bytes) → limited depth all requested ≡ gives text printed
    → (text ≡ all) × (printed ≡ requested) × (length all ≤ limit) × (depth ≤ depth_limit)
limits depth all text requested printed e =
    let tests : (nat_lt limit (length all) ≡ false) × (nat_lt depth_limit depth ≡ false) = within (nat_lt limit (length all)) (nat_lt depth_limit depth) all text requested printed e in
    let long : length all ≤ limit = ltb-false limit (length all) tests.0 in
    let deep : depth ≤ depth_limit = ltb-false depth_limit depth tests.1 in
    let same : gives all requested ≡ gives text printed = sym (fitting depth all requested long deep) ∙ e in
    let first : text ≡ all = cc in
    let second : printed ≡ requested = cc in
    (first, second, long, deep)

pub given : (items : List Item) (text : Bytes) (requested printed : Option Bytes) → written items requested ≡ gives text printed → IsGiven items text requested printed
given items text requested printed e =
    let found = limits (depth_of (laid_out (tidied items))) (layout (tidied items)) text requested printed e in
    record { layout_is = found.0; same = found.1; long = found.2; deep = found.3 }
