-- The tables of names, looked up by the first character.
use Rattle.bz_label.proofs.Words.{[], ◌<◌, ◌||◌, ◌∙◌, ◌∷◌, ◌≡◌, ap, arith, Bool, Bytes, bytes_eq, codes, false, get_or, if◌then◌else◌, is_in, nat_eq, nat_tests, position, priority_at, priority_of, refl, sorted_attributes, subst, sym, true, ℕ}

-- what holds of each text with this first character
begins : (P : Bytes → Type 0) (text : Bytes) (first letter : ℕ) → first ≡ get_or text 0 0 → first ≡ letter → 0 < letter → ((rest : Bytes) → P (letter ∷ rest)) → P text
begins P [] first letter e f l all = absurd (omega arith)
begins P (c ∷ rest) first letter e f l all = subst (λ (k : ℕ). P (k ∷ rest)) (sym f ∙ e) (all rest)

differs : (first letter c : ℕ) → first ≡ c → (first ≡ letter → ⊥) → nat_eq c letter ≡ false
differs first letter c e n = grind (arith, nat_tests)

-- what holds of either answer, and of two of which the second is looked for after the first
by_bool : (P : Bool → Type 0) → P true → P false → (a : Bool) → P a
by_bool P h i true = h
by_bool P h i false = i

by_two : (P : Bool → Bool → Type 0) → ((b : Bool) → P true b) → P false true → P false false → (a b : Bool) → P a b
by_two P h i j true b = h b
by_two P h i j false b = by_bool (P false) i j b

or_none : (a : Bool) → a ≡ (a || false)
or_none = by_bool (λ a. a ≡ (a || false)) refl refl

or_either : (a b : Bool) → (a || b) ≡ (a || (b || false))
or_either = by_two (λ a b. (a || b) ≡ (a || (b || false))) (λ b. refl) refl refl

-- ---- the sorted attributes

pub sorted_c : (text : Bytes) (first : ℕ) → first ≡ get_or text 0 0 → first ≡ 99 → bytes_eq text (codes "compatible_with") ≡ is_in sorted_attributes text
sorted_c text first e f = begins (λ text. bytes_eq text (codes "compatible_with") ≡ is_in sorted_attributes text) text first 99 e f (omega arith) (λ rest. or_none (bytes_eq (99 ∷ rest) (codes "compatible_with")))

pub sorted_d : (text : Bytes) (first : ℕ) → first ≡ get_or text 0 0 → first ≡ 100 → (bytes_eq text (codes "data") || bytes_eq text (codes "deps")) ≡ is_in sorted_attributes text
sorted_d text first e f = begins (λ text. (bytes_eq text (codes "data") || bytes_eq text (codes "deps")) ≡ is_in sorted_attributes text) text first 100 e f (omega arith) (λ rest. or_either (bytes_eq (100 ∷ rest) (codes "data")) (bytes_eq (100 ∷ rest) (codes "deps")))

pub sorted_e : (text : Bytes) (first : ℕ) → first ≡ get_or text 0 0 → first ≡ 101 → bytes_eq text (codes "exports") ≡ is_in sorted_attributes text
sorted_e text first e f = begins (λ text. bytes_eq text (codes "exports") ≡ is_in sorted_attributes text) text first 101 e f (omega arith) (λ rest. or_none (bytes_eq (101 ∷ rest) (codes "exports")))

pub sorted_h : (text : Bytes) (first : ℕ) → first ≡ get_or text 0 0 → first ≡ 104 → bytes_eq text (codes "hdrs") ≡ is_in sorted_attributes text
sorted_h text first e f = begins (λ text. bytes_eq text (codes "hdrs") ≡ is_in sorted_attributes text) text first 104 e f (omega arith) (λ rest. or_none (bytes_eq (104 ∷ rest) (codes "hdrs")))

pub sorted_i : (text : Bytes) (first : ℕ) → first ≡ get_or text 0 0 → first ≡ 105 → bytes_eq text (codes "implementation_deps") ≡ is_in sorted_attributes text
sorted_i text first e f = begins (λ text. bytes_eq text (codes "implementation_deps") ≡ is_in sorted_attributes text) text first 105 e f (omega arith) (λ rest. or_none (bytes_eq (105 ∷ rest) (codes "implementation_deps")))

pub sorted_r : (text : Bytes) (first : ℕ) → first ≡ get_or text 0 0 → first ≡ 114 → bytes_eq text (codes "runtime_deps") ≡ is_in sorted_attributes text
sorted_r text first e f = begins (λ text. bytes_eq text (codes "runtime_deps") ≡ is_in sorted_attributes text) text first 114 e f (omega arith) (λ rest. or_none (bytes_eq (114 ∷ rest) (codes "runtime_deps")))

pub sorted_s : (text : Bytes) (first : ℕ) → first ≡ get_or text 0 0 → first ≡ 115 → bytes_eq text (codes "srcs") ≡ is_in sorted_attributes text
sorted_s text first e f = begins (λ text. bytes_eq text (codes "srcs") ≡ is_in sorted_attributes text) text first 115 e f (omega arith) (λ rest. or_none (bytes_eq (115 ∷ rest) (codes "srcs")))

pub sorted_t : (text : Bytes) (first : ℕ) → first ≡ get_or text 0 0 → first ≡ 116 → (bytes_eq text (codes "tags") || bytes_eq text (codes "textual_hdrs")) ≡ is_in sorted_attributes text
sorted_t text first e f = begins (λ text. (bytes_eq text (codes "tags") || bytes_eq text (codes "textual_hdrs")) ≡ is_in sorted_attributes text) text first 116 e f (omega arith) (λ rest. or_either (bytes_eq (116 ∷ rest) (codes "tags")) (bytes_eq (116 ∷ rest) (codes "textual_hdrs")))

pub sorted_v : (text : Bytes) (first : ℕ) → first ≡ get_or text 0 0 → first ≡ 118 → bytes_eq text (codes "visibility") ≡ is_in sorted_attributes text
sorted_v text first e f = begins (λ text. bytes_eq text (codes "visibility") ≡ is_in sorted_attributes text) text first 118 e f (omega arith) (λ rest. or_none (bytes_eq (118 ∷ rest) (codes "visibility")))

pub sorted_other : (text : Bytes) (first : ℕ) → first ≡ get_or text 0 0 → (first ≡ 99 → ⊥) → (first ≡ 100 → ⊥) → (first ≡ 101 → ⊥) → (first ≡ 104 → ⊥) → (first ≡ 105 → ⊥) → (first ≡ 114 → ⊥) → (first ≡ 115 → ⊥) → (first ≡ 116 → ⊥) → (first ≡ 118 → ⊥) → false ≡ is_in sorted_attributes text
sorted_other [] first e apart_c apart_d apart_e apart_h apart_i apart_r apart_s apart_t apart_v = refl
sorted_other (c ∷ rest) first e apart_c apart_d apart_e apart_h apart_i apart_r apart_s apart_t apart_v = rw (differs first 99 c e apart_c, differs first 100 c e apart_d, differs first 101 c e apart_e, differs first 104 c e apart_h, differs first 105 c e apart_i, differs first 114 c e apart_r, differs first 115 c e apart_s, differs first 116 c e apart_t, differs first 118 c e apart_v) refl

-- ---- places

-- the place of an argument, by which name it has
abbrev place_by : Bool → Bool → Bool → Bool → Bool → Bool → Bool → Bool → Bool → Bool → Bool → Bool → Bool → ℕ
place_by name size timeout testonly src srcs out outs hdrs exports runtime_deps deps alwayslink =
    priority_at (position (λ b. b) (name ∷ size ∷ timeout ∷ testonly ∷ src ∷ srcs ∷ out ∷ outs ∷ hdrs ∷ [])) (position (λ b. b) (exports ∷ runtime_deps ∷ deps ∷ alwayslink ∷ []))

pub place_n : (text : Bytes) (first : ℕ) → first ≡ get_or text 0 0 → first ≡ 110 → (if bytes_eq text (codes "name") then 0 else 9) ≡ priority_of text
place_n text first e f = begins (λ text. (if bytes_eq text (codes "name") then 0 else 9) ≡ priority_of text) text first 110 e f (omega arith) (λ rest. by_bool (λ a. (if a then 0 else 9) ≡ place_by a false false false false false false false false false false false false) refl refl (bytes_eq (110 ∷ rest) (codes "name")))

by_s : (a b c : Bool) → (if a then 1 else (if b then 4 else (if c then 5 else 9))) ≡ place_by false a false false b c false false false false false false false
by_s true b c = refl
by_s false true c = refl
by_s false false true = refl
by_s false false false = refl

-- the place of an argument that begins with s, by whether it is `size`
abbrev by_size : Bool → Bytes → ℕ
by_size size text = if size then 1 else (if bytes_eq text (codes "src") then 4 else (if bytes_eq text (codes "srcs") then 5 else 9))

place_s_all : (text : Bytes) (first : ℕ) → first ≡ get_or text 0 0 → first ≡ 115 → by_size (bytes_eq text (codes "size")) text ≡ priority_of text
place_s_all text first e f = begins (λ text. by_size (bytes_eq text (codes "size")) text ≡ priority_of text) text first 115 e f (omega arith) (λ rest. by_s (bytes_eq (115 ∷ rest) (codes "size")) (bytes_eq (115 ∷ rest) (codes "src")) (bytes_eq (115 ∷ rest) (codes "srcs")))

pub place_t : (text : Bytes) (first : ℕ) → first ≡ get_or text 0 0 → first ≡ 116 → (if bytes_eq text (codes "timeout") then 2 else (if bytes_eq text (codes "testonly") then 3 else 9)) ≡ priority_of text
place_t text first e f = begins (λ text. (if bytes_eq text (codes "timeout") then 2 else (if bytes_eq text (codes "testonly") then 3 else 9)) ≡ priority_of text) text first 116 e f (omega arith) (λ rest. by_two (λ a b. (if a then 2 else (if b then 3 else 9)) ≡ place_by false false a b false false false false false false false false false) (λ b. refl) refl refl (bytes_eq (116 ∷ rest) (codes "timeout")) (bytes_eq (116 ∷ rest) (codes "testonly")))

pub place_o : (text : Bytes) (first : ℕ) → first ≡ get_or text 0 0 → first ≡ 111 → (if bytes_eq text (codes "out") then 6 else (if bytes_eq text (codes "outs") then 7 else 9)) ≡ priority_of text
place_o text first e f = begins (λ text. (if bytes_eq text (codes "out") then 6 else (if bytes_eq text (codes "outs") then 7 else 9)) ≡ priority_of text) text first 111 e f (omega arith) (λ rest. by_two (λ a b. (if a then 6 else (if b then 7 else 9)) ≡ place_by false false false false false false a b false false false false false) (λ b. refl) refl refl (bytes_eq (111 ∷ rest) (codes "out")) (bytes_eq (111 ∷ rest) (codes "outs")))

pub place_h : (text : Bytes) (first : ℕ) → first ≡ get_or text 0 0 → first ≡ 104 → (if bytes_eq text (codes "hdrs") then 8 else 9) ≡ priority_of text
place_h text first e f = begins (λ text. (if bytes_eq text (codes "hdrs") then 8 else 9) ≡ priority_of text) text first 104 e f (omega arith) (λ rest. by_bool (λ a. (if a then 8 else 9) ≡ place_by false false false false false false false false a false false false false) refl refl (bytes_eq (104 ∷ rest) (codes "hdrs")))

pub place_e : (text : Bytes) (first : ℕ) → first ≡ get_or text 0 0 → first ≡ 101 → (if bytes_eq text (codes "exports") then 10 else 9) ≡ priority_of text
place_e text first e f = begins (λ text. (if bytes_eq text (codes "exports") then 10 else 9) ≡ priority_of text) text first 101 e f (omega arith) (λ rest. by_bool (λ a. (if a then 10 else 9) ≡ place_by false false false false false false false false false a false false false) refl refl (bytes_eq (101 ∷ rest) (codes "exports")))

pub place_r : (text : Bytes) (first : ℕ) → first ≡ get_or text 0 0 → first ≡ 114 → (if bytes_eq text (codes "runtime_deps") then 11 else 9) ≡ priority_of text
place_r text first e f = begins (λ text. (if bytes_eq text (codes "runtime_deps") then 11 else 9) ≡ priority_of text) text first 114 e f (omega arith) (λ rest. by_bool (λ a. (if a then 11 else 9) ≡ place_by false false false false false false false false false false a false false) refl refl (bytes_eq (114 ∷ rest) (codes "runtime_deps")))

pub place_d : (text : Bytes) (first : ℕ) → first ≡ get_or text 0 0 → first ≡ 100 → (if bytes_eq text (codes "deps") then 12 else 9) ≡ priority_of text
place_d text first e f = begins (λ text. (if bytes_eq text (codes "deps") then 12 else 9) ≡ priority_of text) text first 100 e f (omega arith) (λ rest. by_bool (λ a. (if a then 12 else 9) ≡ place_by false false false false false false false false false false false a false) refl refl (bytes_eq (100 ∷ rest) (codes "deps")))

pub place_a : (text : Bytes) (first : ℕ) → first ≡ get_or text 0 0 → first ≡ 97 → (if bytes_eq text (codes "alwayslink") then 13 else 9) ≡ priority_of text
place_a text first e f = begins (λ text. (if bytes_eq text (codes "alwayslink") then 13 else 9) ≡ priority_of text) text first 97 e f (omega arith) (λ rest. by_bool (λ a. (if a then 13 else 9) ≡ place_by false false false false false false false false false false false false a) refl refl (bytes_eq (97 ∷ rest) (codes "alwayslink")))

pub place_size : (text : Bytes) (first : ℕ) → first ≡ get_or text 0 0 → first ≡ 115 → bytes_eq text (codes "size") ≡ true → 1 ≡ priority_of text
place_size text first e f h = sym (ap (λ b. by_size b text) h) ∙ place_s_all text first e f

pub place_s : (text : Bytes) (first : ℕ) → first ≡ get_or text 0 0 → first ≡ 115 → bytes_eq text (codes "size") ≡ false →
    (if bytes_eq text (codes "src") then 4 else (if bytes_eq text (codes "srcs") then 5 else 9)) ≡ priority_of text
place_s text first e f h = sym (ap (λ b. by_size b text) h) ∙ place_s_all text first e f

pub place_other : (text : Bytes) (first : ℕ) → first ≡ get_or text 0 0 → (first ≡ 110 → ⊥) → (first ≡ 115 → ⊥) → (first ≡ 116 → ⊥) → (first ≡ 111 → ⊥) → (first ≡ 104 → ⊥) → (first ≡ 101 → ⊥) → (first ≡ 114 → ⊥) → (first ≡ 100 → ⊥) → (first ≡ 97 → ⊥) → 9 ≡ priority_of text
place_other [] first e apart_n apart_s apart_t apart_o apart_h apart_e apart_r apart_d apart_a = refl
place_other (c ∷ rest) first e apart_n apart_s apart_t apart_o apart_h apart_e apart_r apart_d apart_a = rw (differs first 110 c e apart_n, differs first 115 c e apart_s, differs first 116 c e apart_t, differs first 111 c e apart_o, differs first 104 c e apart_h, differs first 101 c e apart_e, differs first 114 c e apart_r, differs first 100 c e apart_d, differs first 97 c e apart_a) refl
