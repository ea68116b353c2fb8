-- Operands of a line, and lines of a file, one after the other.
use Rattle.bz_command_line.proofs.Words.{[], ◌++◌, ◌+◌, ◌<◌, ◌∙◌, ◌∷◌, ◌≡◌, ◌≢◌, add-one, ap, append-nil, append_assoc, arith, BadPattern, Bor, both, Bytes, Command, drop, drop-cons, Err, get_or, IfSome, in_front, in_line, inl, inr, is_read, joined_by, joined_operands, length, length-map, length-take-le, line_group, line_with_nul, List, map, map-append, map_more, None, nothing_requested, Ok, operand_groups, operands_in, Option, option_map, refl, Refused, refused_for, Requested, requested_by, requested_of, Result, script_lines, Some, subst, suc, sym, take, take-append-drop, true, Usage, ℕ}
use Rattle.bz_command_line.specs.Refused.{IsFirstFault, IsFirstRefused, IsGroupFault, IsOperandFault, IsRefusedOperand, IsScriptFault}
use Rattle.bz_command_line.specs.declared.verb.OperandFault.{OperandFault}
use Rattle.bz_command_syntax.specs.declared.profile.Profile.{Profile}
use Rattle.bz_command_line.proofs.OtherFaults.{no_pattern}

-- ---- texts after references, cut at a place

abbrev pub texts_in : List (Bor Bytes) → List Bytes
texts_in items = map (λ s. s.now) items

abbrev pub text_at : List (Bor Bytes) → ℕ → Bytes
text_at items at = (get_or items at (record { ref_ptr = (0, 0); now = [] })).now

texts_more : (items : List (Bor Bytes)) (at : ℕ) → at < length items → texts_in (take (at + 1) items) ≡ texts_in (take at items) ++ text_at items at ∷ []
texts_more items at within = map_more (λ s. s.now) items at (record { ref_ptr = (0, 0); now = [] }) within

texts_before : (items : List (Bor Bytes)) (at : ℕ) → at < length items → length (texts_in (take at items)) ≡ at
texts_before items at within = length-map (take at items) (λ s. s.now) ∙ length-take-le at items (omega (arith, within))

texts_split : (items : List (Bor Bytes)) (at : ℕ) → at < length items
    → texts_in items ≡ texts_in (take at items) ++ text_at items at ∷ texts_in (drop (at + 1) items)
texts_split items at within =
    let none : Bor Bytes = record { ref_ptr = (0, 0); now = [] } in
    let rest : drop at items ≡ get_or items at none ∷ drop (at + 1) items = rw (add-one) (drop-cons items at none within) in
    ap texts_in (sym (take-append-drop at items)) ∙ map-append (λ s. s.now) (take at items) (drop at items)
    ∙ ap (λ (left : List (Bor Bytes)). texts_in (take at items) ++ texts_in left) rest

-- ---- results, of which the first fault counts

module _ {A E : Type 0} (join : A → A → A) where
  joined_by-none : (none : A) → ((a : A) → join a none ≡ join none a) → (a : Result A E) → joined_by join a (Ok none) ≡ joined_by join (Ok none) a
  joined_by-none none same (Err fault) = refl
  joined_by-none none same (Ok a) = ap Ok (same a)

  joined_by-assoc : ((a b c : A) → join (join a b) c ≡ join a (join b c)) → (a b c : Result A E) → joined_by join (joined_by join a b) c ≡ joined_by join a (joined_by join b c)
  joined_by-assoc same (Err fault) b c = refl
  joined_by-assoc same (Ok a) (Err fault) c = refl
  joined_by-assoc same (Ok a) (Ok b) (Err fault) = refl
  joined_by-assoc same (Ok a) (Ok b) (Ok c) = ap Ok (same a b c)

module _ (profile : Profile) where
  -- ---- operands

  requested_more : (front : List Bytes) (operand : Bytes) → requested_of profile (front ++ operand ∷ []) ≡ joined_operands (requested_of profile front) (requested_by profile operand)
  requested_more [] operand =
      joined_by-none both nothing_requested (λ a. rw (append-nil a.commands, append-nil a.targets) refl) (requested_by profile operand)
  requested_more (first ∷ front) operand =
      ap (joined_operands (requested_by profile first)) (requested_more front operand)
      ∙ sym (joined_by-assoc both (λ a b c. rw (append_assoc a.commands b.commands c.commands, append_assoc a.targets b.targets c.targets) refl)
      (requested_by profile first) (requested_of profile front) (requested_by profile operand))

  -- one operand more is read
  pub requested_turn : (items : List (Bor Bytes)) (at : ℕ) (requested more : Requested) → at < length items → requested_of profile (texts_in (take at items)) ≡ Ok requested
      → joined_operands (Ok requested) (requested_by profile (text_at items at)) ≡ Ok more → requested_of profile (texts_in (take (at + 1) items)) ≡ Ok more
  requested_turn items at requested more within before one =
      ap (requested_of profile) (texts_more items at within) ∙ requested_more (texts_in (take at items)) (text_at items at)
      ∙ ap (λ first. joined_operands first (requested_by profile (text_at items at))) before ∙ one

  -- what is reported of an operand that is refused for this fault, with the reason where that is a pattern
  pub is_refused : (refused : Refused) (operand : Bytes) (fault : OperandFault) → IsOperandFault profile operand fault → refused.profile ≡ profile
      → refused.operand ≡ operand → refused.fault ≡ fault → (fault ≢ Command BadPattern → refused.pattern ≡ None) → IsRefusedOperand profile refused
  is_refused refused operand fault (inl is) in_profile same named other =
      let none = other (no_pattern profile operand fault is) in
      let all : refused_for profile operand fault ≡ refused = rw (sym in_profile, sym same, sym named, sym none) refl in
      inl (ap (requested_by profile) same ∙ is ∙ ap Err all)
  is_refused refused operand fault (inr is) in_profile same named other = inr (rw (same, named) is)

  pub refused_turn : (items : List (Bor Bytes)) (at : ℕ) (requested : Requested) (refused : Refused) → at < length items
      → requested_of profile (texts_in (take at items)) ≡ Ok requested → refused.operand ≡ text_at items at → IsRefusedOperand profile refused
      → IsFirstRefused profile (texts_in items) refused
  refused_turn items at requested refused within before same is = record {
    front = texts_in (take at items);
    rest = texts_in (drop (at + 1) items);
    requested = requested;
    split = rw same (texts_split items at within);
    before = before;
    fault = is;
  }

  -- ---- lines

  groups_more : (number : ℕ) (front : List Bytes) (line : Bytes)
      → operand_groups profile number (front ++ line ∷ []) ≡ in_front (operand_groups profile number front) (line_group profile (number + length front) line)
  groups_more number [] line =
      let same : number ≡ number + 0 = omega arith in
      joined_by-none (λ a b. a ++ b) [] append-nil (line_group profile number line) ∙ ap (λ (n : ℕ). in_front (Ok []) (line_group profile n line)) same
  groups_more number (first ∷ front) line =
      let same : number + 1 + length front ≡ number + suc (length front) = omega arith in
      ap (in_front (line_group profile number first)) (groups_more (number + 1) front line)
      ∙ sym (joined_by-assoc (λ a b. a ++ b) append_assoc (line_group profile number first) (operand_groups profile (number + 1) front) (line_group profile (number + 1 + length front) line))
      ∙ ap (λ (n : ℕ). in_front (operand_groups profile number (first ∷ front)) (line_group profile n line)) same

  -- one line more is read
  pub groups_turn : (items : List (Bor Bytes)) (at : ℕ) (groups more : List Requested) → at < length items → operand_groups profile 1 (texts_in (take at items)) ≡ Ok groups
      → in_front (Ok groups) (line_group profile (at + 1) (text_at items at)) ≡ Ok more → operand_groups profile 1 (texts_in (take (at + 1) items)) ≡ Ok more
  groups_turn items at groups more within before turn =
      let count = texts_before items at within in
      let number : 1 + length (texts_in (take at items)) ≡ at + 1 = omega (arith, count) in
      ap (operand_groups profile 1) (texts_more items at within) ∙ groups_more 1 (texts_in (take at items)) (text_at items at)
      ∙ ap (λ (it : Result (List Requested) Usage). in_front it (line_group profile (1 + length (texts_in (take at items))) (text_at items at))) before
      ∙ ap (λ (n : ℕ). in_front (Ok groups) (line_group profile n (text_at items at))) number ∙ turn

  -- the fault of a line is the first one
  pub fault_turn : (items : List (Bor Bytes)) (at : ℕ) (groups : List Requested) (found : Option Usage) (operands : List Bytes) → at < length items
      → operand_groups profile 1 (texts_in (take at items)) ≡ Ok groups → is_read (text_at items at) ≡ true → operands ≡ operands_in (text_at items at)
      → IfSome found (IsGroupFault profile operands) → IfSome (option_map (in_line (at + 1)) found) (IsFirstFault profile (texts_in items))
  fault_turn items at groups None operands within before here same is = tt
  fault_turn items at groups (Some usage) operands within before here same is = record {
    front = texts_in (take at items);
    line = text_at items at;
    rest = texts_in (drop (at + 1) items);
    groups = groups;
    split = texts_split items at within;
    before = before;
    fault = rw (texts_before items at within) (here, usage, subst (λ (all : List Bytes). IsGroupFault profile all usage) same is, refl);
  }

  -- the first fault of the lines of a file, none of which has a NUL byte
  pub fault_of_script : (found : Option Usage) (text : Bytes) (lines : List Bytes) → lines ≡ script_lines text → line_with_nul lines ≡ None
      → IfSome found (IsFirstFault profile lines) → IfSome found (IsScriptFault profile text)
  fault_of_script None text lines is none first = tt
  fault_of_script (Some usage) text lines is none first = inr (subst (λ (it : List Bytes). line_with_nul it ≡ None) is none, subst (λ (it : List Bytes). IsFirstFault profile it usage) is first)
