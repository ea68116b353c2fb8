-- What follows an item of a broken sequence: a comma, nothing, or the closing bracket.
use Rattle.bz_layout.proofs.Words.{[], ◌∷◌, ◌≡◌, ◌∙◌, and_parts, ap, Bool, Bytes, comma, comments_of, eqb-true, Expr, false, followed, is_bare, is_closed, is_empty, is_kind, is_none, is_tuple, is_written, Kind, Kind as k, Lines, List, mark, None, Option, Piece, refl, Some, sym, true, true≢false, ℕ}
use Rattle.bz_grammar.proofs.Numbers.{same_kind}

pub no_values : {X : Type 0} (xs : List X) → is_empty xs ≡ true → xs ≡ []
no_values [] e = refl
no_values (x ∷ xs) e = absurd (true≢false (sym e))

pub not_alone : {X : Type 0} (x : X) (xs : List X) → x ∷ xs ≡ [] → ⊥
not_alone x xs e = true≢false (sym (ap is_empty e))

pub no_suffix : (suffix : Option Bytes) → is_none suffix ≡ true → suffix ≡ None
no_suffix None e = refl
no_suffix (Some text) e = absurd (true≢false (sym e))

-- an item after which no comma is: the last of a sequence that is no tuple
pub record IsLast (kind : Kind) (others : List Expr) : Type 0 where
  pub alone : others ≡ []
  pub no_tuple : is_tuple kind ≡ false

-- and after which the bracket is: there are no comments between
pub record Closes (kind : Kind) (x : Expr) (others : List Expr) (end : List Bytes) : Type 0 where
  pub last : IsLast kind others
  pub bare : (comments_of x).suffix ≡ None
  pub ends : end ≡ []

no_tuple : (kind own : Kind) → is_kind kind own ≡ true → is_tuple own ≡ false → is_tuple kind ≡ false
no_tuple kind own h other = ap is_tuple (same_kind kind own (eqb-true _ _ h)) ∙ other

pub closes : (mode : Lines) (kind : Kind) (x : Expr) (others : List Expr) (end : List Bytes) → is_closed mode kind x others end ≡ true → Closes kind x others end
closes mode kind x others end h =
    let a = and_parts (is_written mode) _ h in
    let b = and_parts (is_kind kind k.Def) _ a.1 in
    let c = and_parts (is_none (comments_of x).suffix) _ b.1 in
    let d = and_parts (is_empty others) _ c.1 in
    record {
      last = record { alone = no_values others d.0; no_tuple = no_tuple kind k.Def b.0 refl };
      bare = no_suffix (comments_of x).suffix c.0;
      ends = no_values end d.1;
    }

pub is_last : (mode : Lines) (kind : Kind) (x : Expr) (others : List Expr) → is_bare mode kind x others ≡ true → IsLast kind others
is_last mode kind x others h =
    let a = and_parts (is_written mode) _ h in
    let b = and_parts (is_kind kind k.Call) _ a.1 in
    let c = and_parts _ (is_empty others) b.1 in
    record { alone = no_values others c.1; no_tuple = no_tuple kind k.Call b.0 refl }

-- What holds of the bracket, of what is below, and of a comma with what is below, each where it is what follows, holds of what follows.
pub by_followed : {X : Type 0} (P : List (Piece X) → Type 0) (mode : Lines) (kind : Kind) (x : Expr) (others : List Expr) (end : List Bytes) (closer : ℕ) (below : List (Piece X)) →
    (Closes kind x others end → P (mark [] (closer ∷ []) ∷ [])) → (IsLast kind others → P below) → P (mark [] (comma ∷ []) ∷ below) → P (followed (is_closed mode kind x others end) (is_bare mode kind x others) closer below)
by_followed {X} P mode kind x others end closer below a b c =
    by_tests (is_closed mode kind x others end) (is_bare mode kind x others) (λ h. a (closes mode kind x others end h)) (λ h. b (is_last mode kind x others h))
  where
    by_tests : (closed bare : Bool) → (closed ≡ true → P (mark [] (closer ∷ []) ∷ [])) → (bare ≡ true → P below) → P (followed closed bare closer below)
    by_tests true bare d e = d refl
    by_tests false true d e = e refl
    by_tests false false d e = c
