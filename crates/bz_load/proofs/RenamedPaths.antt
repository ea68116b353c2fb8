-- Strings that may be paths of loads: what has no body stays, and what has one is a string.
use Rattle.bz_load.proofs.Words.{◌≡◌, ap, body, body_of, body_utf8, Bytes, Class, Class as c, Expr, Form', has_class, IfSome, if◌then◌else◌, is_class, IsUtf8, None, Option, option_and_then, option_map_or, refl, Some, string_substituted, subst, substituted, text_of, Token, true, with_string_body}

pub no_body : (pattern template : Bytes) (x : Expr) → None ≡ body_of x → x ≡ string_substituted pattern template x
no_body pattern template x e = ap (λ found. option_map_or (λ inside. with_string_body inside (substituted pattern template inside) x) found x) e

-- the body of a text of characters is one
token_body : (class : Class) (text inside : Bytes) → option_and_then body (if is_class class c.String then Some text else None) ≡ Some inside
    → (is_class class c.String ≡ true) × (IsUtf8 text → IsUtf8 inside)
token_body c.String text inside e = (refl, λ u. subst (λ (found : Option Bytes). IfSome found IsUtf8) e (body_utf8 text u))
token_body _ text inside e = absurd cc

pub string_body : (x : Expr) (inside : Bytes) → body_of x ≡ Some inside → (has_class c.String x ≡ true) × (IsUtf8 (text_of x) → IsUtf8 inside)
string_body (Token t) inside e = token_body t.class t.text inside e
string_body (Form' kind s parts s' items end split open_break comments) inside e = absurd cc
