-- Patterns whose matches a caller sees alike make the same of a body.
use Rattle.bz_command_syntax.proofs.Imported.{[], ◌*◌, ◌++◌, ◌+◌, ◌<◌, ◌==◌, ◌∙◌, ◌∷◌, ◌≡◌, ◌≤◌, ap, ap₂, chars, default_config, get_or, group_count, if◌then◌else◌, IsSomeAnd, length, List, map, Match, missing_after, missing_group, Names, None, Option, option_and_then, Re, read, refl, replaced_in, SameCaptures, slice_range, Some, substituted_by, true, written_after, ℕ}
use Rattle.regex_syntax.specs.Brackets.{Nested}
use Rattle.regex.specs.{Patterns.Reads, Replace.replaced_by, Replace.group_bytes, Replace.bytes_of, Writes.both, Strings.regex_pattern, Strings.regex_names, Strings.regex_source, Strings.regex_config, Strings.IsReadFromSource, declared.string.regex.Regex.Regex}
use Rattle.regex.proofs.ForCallers.{spans, find_all_alike}

-- what a caller sees of a match: where it starts and ends, and its slots
abbrev Seen : Type 0
Seen = ℕ × ℕ × (ℕ → Option ℕ)

-- the bytes of a group by what is seen
abbrev group_seen : List ℕ → Seen → ℕ → List ℕ
group_seen body s n = bytes_of body (if n == 0 then Some (s.0, s.1) else both (s.2 (2 * n)) (s.2 (2 * n + 1)))

-- what replaces matches is alike where the matches are seen alike
replaced_alike : (names : Names) (template body : List ℕ) (at : ℕ) (xs ys : List Match) → map spans xs ≡ map spans ys →
    replaced_by (λ m. written_after names (group_bytes body m) template 0) body at xs
    ≡ replaced_by (λ m. written_after names (group_bytes body m) template 0) body at ys
unfolding replaced_by
replaced_alike names template body at [] [] e = refl
replaced_alike names template body at [] (y ∷ ys) e = absurd cc
replaced_alike names template body at (x ∷ xs) [] e = absurd cc
replaced_alike names template body at (x ∷ xs) (y ∷ ys) e =
    let head : spans x ≡ spans y = cc in
    let tail : map spans xs ≡ map spans ys = cc in
    ap₂ ◌++◌ (ap (λ (s : Seen). slice_range body at s.0 ++ written_after names (group_seen body s) template 0) head)
    (replaced_alike names template body x.trace.end xs ys tail
    ∙ ap (λ (s : Seen). replaced_by (λ m. written_after names (group_bytes body m) template 0) body s.1 ys) head)

module _ (template body : List ℕ) (bytes : (k : ℕ) → get_or body k 0 < 256) where
  by_reading : (found : Option (Nested Re × Names)) (most : ℕ) (pattern : Re) (names : Names) →
      IsSomeAnd found (λ (re, others). (re.depth ≤ most) × SameCaptures pattern re.value × (names ≡ others) × (group_count pattern ≤ length names)) →
      replaced_in pattern names template body ≡ substituted_by found template body
  by_reading None most pattern names h = absurd h
  by_reading (Some found) most pattern names h =
      replaced_alike names template body 0 _ _ (find_all_alike h.1 body bytes true)
      ∙ ap (λ (others : Names). replaced_in found.0.value others template body) h.2

  -- A compiled pattern makes of a body what the pattern that is read in its source makes of it.
  as_read : (regex : Regex) → regex_config regex ≡ default_config → IsReadFromSource regex →
      replaced_in (regex_pattern regex) (regex_names regex) template body
      ≡ substituted_by (read default_config (chars (regex_source regex))) template body
  unfolding Reads
  as_read regex is_default is_read =
      by_reading _ default_config.nest_limit (regex_pattern regex) (regex_names regex) (rw is_default at is_read)

  -- The same of the pattern and the names that a matcher has of it.
  pub as_matched : (regex : Regex) (source : List ℕ) (pattern : Re) (names : Names) → regex_source regex ≡ source →
      regex_config regex ≡ default_config → IsReadFromSource regex → pattern ≡ regex_pattern regex → names ≡ regex_names regex →
      replaced_in pattern names template body ≡ substituted_by (read default_config (chars source)) template body
  as_matched regex source pattern names is_source is_default is_read same_pattern same_names =
      ap₂ (λ re others. replaced_in re others template body) same_pattern same_names ∙ as_read regex is_default is_read
      ∙ ap (λ text. substituted_by (read default_config (chars text)) template body) is_source

-- ---- names of groups

module _ (template : List ℕ) where
  by_names : (found : Option (Nested Re × Names)) (most : ℕ) (pattern : Re) (names : Names) →
      IsSomeAnd found (λ (re, others). (re.depth ≤ most) × SameCaptures pattern re.value × (names ≡ others) × (group_count pattern ≤ length names)) →
      missing_after names template 0 ≡ option_and_then (λ pattern. missing_after pattern.1 template 0) found
  by_names None most pattern names h = absurd h
  by_names (Some found) most pattern names h = ap (λ (others : Names). missing_after others template 0) h.2

  -- A compiled pattern lacks the groups that the pattern that is read in its source lacks.
  pub names_as_read : (regex : Regex) → regex_config regex ≡ default_config → IsReadFromSource regex →
      missing_after (regex_names regex) template 0 ≡ missing_group (regex_source regex) template
  unfolding Reads missing_group
  names_as_read regex is_default is_read = by_names _ default_config.nest_limit (regex_pattern regex) (regex_names regex) (rw is_default at is_read)
