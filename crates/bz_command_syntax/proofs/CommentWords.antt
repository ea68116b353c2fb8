-- The words of a comment, by the last of them.
use Rattle.bz_command_syntax.proofs.Imported.{[], ◌++◌, ◌∙◌, ◌∷◌, ◌≡◌, ap, Bytes, false, host_text, is_one_line, List, None, option_and_then, option_map, refl, Some, split_last}

last_split : (front : List Bytes) (last : Bytes) → split_last (front ++ last ∷ []) ≡ Some (front, last)
last_split [] last = refl
last_split (word ∷ []) last = refl
last_split (word ∷ next ∷ front) last = ap (option_map (λ parts. (word ∷ parts.0, parts.1))) (last_split (next ∷ front) last)

pub comment_cut : (words front : List Bytes) (text : Bytes) → words ≡ front ++ text ∷ [] → option_and_then host_text (split_last words) ≡ host_text (front, text)
comment_cut words front text e = ap (λ all. option_and_then host_text (split_last all)) e ∙ ap (option_and_then host_text) (last_split front text)

pub comment_refused : (words front : List Bytes) (text : Bytes) → words ≡ front ++ text ∷ [] → is_one_line text ≡ false → option_and_then host_text (split_last words) ≡ None
comment_refused words front text e other = comment_cut words front text e ∙ rw other refl
