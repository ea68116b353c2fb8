-- What a body becomes, by whether it, the template and what is made of them are texts.
use Rattle.bz_command_syntax.proofs.Imported.{◌&&◌, ◌≡◌, Bool, chars, default_config, false, false_from_ne_true, if◌then◌else◌, is_utf8, is_utf8-from_IsUtf8, IsUtf8, IsUtf8-from_is_utf8, List, read, refl, substituted, substituted_by, TextStaysText, true, ℕ}

is_no_text : (bytes : List ℕ) → (IsUtf8 bytes → ⊥) → is_utf8 bytes ≡ false
is_no_text bytes other = false_from_ne_true _ (λ e. other (IsUtf8-from_is_utf8 bytes e))

module _ (source template body : List ℕ) where
  abbrev made : List ℕ
  made = substituted_by (read default_config (chars source)) template body

  pub without_template : (IsUtf8 template → ⊥) → substituted source template body ≡ body
  unfolding substituted
  without_template other = rw (is_no_text template other) refl

  pub without_body : IsUtf8 template → (IsUtf8 body → ⊥) → substituted source template body ≡ body
  unfolding substituted
  without_body text other = rw (is_utf8-from_IsUtf8 template text, is_no_text body other) refl

  pub with_texts : IsUtf8 template → IsUtf8 body → IsUtf8 made → substituted source template body ≡ made
  unfolding substituted
  with_texts text more new = rw (is_utf8-from_IsUtf8 template text, is_utf8-from_IsUtf8 body more, is_utf8-from_IsUtf8 made new) refl

-- what passes the test, or a text
tested : (texts test : Bool) (new body : List ℕ) → (test ≡ true → IsUtf8 new) → IsUtf8 body → IsUtf8 (if texts && test then new else body)
tested true true new body h u = h refl
tested true false new body h u = u
tested false test new body h u = u

pub substituted_utf8 : TextStaysText
unfolding substituted
substituted_utf8 source template body u =
    tested (is_utf8 template && is_utf8 body) _ _ body (IsUtf8-from_is_utf8 (made source template body)) u
