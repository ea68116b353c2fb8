-- What the laws of tokens say of the text after a gap.
use Rattle.bz_lex.proofs.Words.{[], ◌++◌, ◌||◌, ◌∷◌, ◌≡◌, ◌≢◌, and_right, Bool, both_ways, Class, cond, eqb, eqb-false, false, gap_move, is_blank, is_solid, IsToken, List, None, Open, or_parts, refl, Stops, subst, sym, true, ℕ}
pub use Rattle.bz_token.proofs.Laws.{one_token, begins}

flipped : (b : Bool) → cond b false true ≡ true → b ≡ false
flipped true h = absurd (both_ways false refl h)
flipped false h = refl

-- the four ways in which a byte could go on with a gap
solid_parts : (b : ℕ) → is_solid b ≡ true → (is_blank b ≡ false) × (eqb b 92 ≡ false) × (eqb b 35 ≡ false) × (eqb b 10 ≡ false)
solid_parts b h =
    let x = or_parts (is_blank b) (eqb b 92 || (eqb b 35 || eqb b 10)) (flipped (is_blank b || (eqb b 92 || (eqb b 35 || eqb b 10))) h) in
    let y = or_parts (eqb b 92) (eqb b 35 || eqb b 10) x.1 in
    let z = or_parts (eqb b 35) (eqb b 10) y.1 in
    (x.0, y.0, z.0, z.1)

pub solid_stops : (n : Bool) (b : ℕ) → is_solid b ≡ true → gap_move n Open b ≡ None
solid_stops n b h = let x = solid_parts b h in rw (x.0, x.1, x.2, and_right n (eqb b 10) x.3) refl

-- no gap goes on with a token
pub token_stops : (n : Bool) (k : Class) (t s : List ℕ) → IsToken k t s → Stops n Open (t ++ s)
token_stops n k t s h = let w = begins k t s h in subst (λ (u : List ℕ). Stops n Open (u ++ s)) (sym w.2) (solid_stops n w.0 w.3)

-- no token is empty
pub token_holds : (k : Class) (t s : List ℕ) → IsToken k t s → t ++ s ≢ []
token_holds k t s h e = let w = begins k t s h in let f : (w.0 ∷ w.1) ++ s ≡ [] = subst (λ (u : List ℕ). u ++ s ≡ []) w.2 e in cc

-- no token begins with a newline
pub token_no_newline : (k : Class) (t s r : List ℕ) → IsToken k t s → t ++ s ≢ 10 ∷ r
token_no_newline k t s r h e =
    let w = begins k t s h in
    let f : (w.0 ∷ w.1) ++ s ≡ 10 ∷ r = subst (λ (u : List ℕ). u ++ s ≡ 10 ∷ r) w.2 e in
    eqb-false w.0 10 (solid_parts w.0 w.3).3 cc
