-- Tests over lists of commands, targets and lines.
use Rattle.bz_buildozer.proofs.Words.{[], ◌&&◌, ◌||◌, ◌∙◌, ◌∷◌, ◌≡◌, ◌≤◌, All, All-head, All-tail, all_steps, and-false, ap, AreOfInput, arith, Bool, bytes_eq-Decides, false, flat_map, input_package, is_of_input, is_shown_by, length, length-map, List, list_any, list_any-append, map, names_file, names_input, not, prints, refl, Request, request_in, Requested, requested_in, shown_in, shows_input, step_of, steps_requested, Target, targets_file_in, targets_input_in, true}
use Rattle.bz_command_line.specs.declared.requested.Requested.{Requested as Held}

any_map : {X Y : Type 0} (p : X → Bool) (f : Y → X) (ys : List Y) → list_any p (map f ys) ≡ list_any (λ y. p (f y)) ys
any_map p f [] = refl
any_map p f (y ∷ ys) = ap (λ b. p (f y) || b) (any_map p f ys)

any_flat : {X Y : Type 0} (p : X → Bool) (f : Y → List X) (ys : List Y) → list_any p (flat_map f ys) ≡ list_any (λ y. list_any p (f y)) ys
any_flat p f [] = refl
any_flat p f (y ∷ ys) = list_any-append p (f y) (flat_map f ys) ∙ ap (λ b. list_any p (f y) || b) (any_flat p f ys)

any_same : {X : Type 0} (p q : X → Bool) → ((x : X) → p x ≡ q x) → (xs : List X) → list_any p xs ≡ list_any q xs
any_same p q same [] = refl
any_same p q same (x ∷ xs) = ap (λ b. b || list_any p xs) (same x) ∙ ap (λ b. q x || b) (any_same p q same xs)

-- a test that is one part for all
any_and : {X : Type 0} (b : Bool) (q : X → Bool) (xs : List X) → list_any (λ x. b && q x) xs ≡ (b && list_any q xs)
any_and true q xs = refl
any_and false q [] = refl
any_and false q (x ∷ xs) = any_and false q xs

and_step : (a b rest all : Bool) → all ≡ (rest && b) → ((a && b) || all) ≡ ((a || rest) && b)
and_step true true rest all e = refl
and_step true false rest all e = e ∙ and-false rest
and_step false b rest all e = e

and_any : {X : Type 0} (p : X → Bool) (b : Bool) (xs : List X) → list_any (λ x. p x && b) xs ≡ (list_any p xs && b)
and_any p b [] = refl
and_any p b (x ∷ xs) = and_step (p x) b (list_any p xs) (list_any (λ x. p x && b) xs) (and_any p b xs)

-- a command that doesn't print
abbrev prints_nothing : Request → Bool
prints_nothing request = not (prints request.verb)

-- a line shows the text of standard input where it means rules of it and has a command that doesn't print
shown_by_line : (requested : Requested) → list_any is_shown_by (steps_requested requested) ≡ (list_any is_of_input requested.targets && list_any prints_nothing requested.commands)
shown_by_line requested =
    any_flat is_shown_by (λ target. map (step_of target) requested.commands) requested.targets
    ∙ any_same (λ target. list_any is_shown_by (map (step_of target) requested.commands)) (λ target. is_of_input target && list_any prints_nothing requested.commands)
    (λ target. any_map is_shown_by (step_of target) requested.commands ∙ any_and (is_of_input target) prints_nothing requested.commands) requested.targets
    ∙ and_any is_of_input (list_any prints_nothing requested.commands) requested.targets

pub shown_by_lines : (lines : List Held) → shows_input (all_steps (map requested_in lines)) ≡ list_any shown_in lines
shown_by_lines lines =
    any_flat is_shown_by steps_requested (map requested_in lines)
    ∙ any_map (λ (requested : Requested). list_any is_shown_by (steps_requested requested)) requested_in lines
    ∙ any_same (λ (line : Held). list_any is_shown_by (steps_requested (requested_in line))) shown_in
    (λ line. shown_by_line (requested_in line) ∙ ap (λ b. targets_input_in line && b) (any_map prints_nothing request_in line.commands.items)) lines

-- one command on one target is one step
pub one_step : (line : Held) → length line.commands.items ≡ 1 → length line.targets.items ≡ 1 → length (steps_requested (requested_in line)) ≤ 1
one_step line alone single = go (map request_in line.commands.items) line.targets.items (length-map line.commands.items request_in ∙ alone) single
  where
    go : (commands : List Request) (targets : List Target) → length commands ≡ 1 → length targets ≡ 1 → length (steps_requested (record { commands = commands; targets = targets })) ≤ 1
    go [] targets alone single = absurd (let e = alone in cc)
    go (command ∷ []) [] alone single = absurd (let e = single in cc)
    go (command ∷ []) (target ∷ []) alone single = omega arith
    go (command ∷ []) (target ∷ other ∷ more) alone single = absurd (omega (arith, single))
    go (command ∷ other ∷ more) targets alone single = absurd (omega (arith, alone))

pub filed_in_lines : (lines : List Held) → names_file (map requested_in lines) ≡ list_any targets_file_in lines
filed_in_lines lines = any_map (λ (requested : Requested). list_any (λ target. not (is_of_input target)) requested.targets) requested_in lines

-- rules of standard input alone are meant
none_of : {X : Type 0} (P : X → Type 0) (p : X → Bool) → ((x : X) → P x → p x ≡ false) → (xs : List X) → All P xs → list_any p xs ≡ false
none_of P p differs [] all = refl
none_of P p differs (x ∷ xs) all = ap (λ b. b || list_any p xs) (differs x (All-head P x xs all)) ∙ none_of P p differs xs (All-tail P x xs all)

pub none_filed : (lines : List Requested) → AreOfInput lines → names_file lines ≡ false
none_filed = none_of (λ (requested : Requested). All (λ (target : Target). target.«package» ≡ input_package) requested.targets)
    (λ (requested : Requested). list_any (λ target. not (is_of_input target)) requested.targets)
    (λ requested. none_of (λ (target : Target). target.«package» ≡ input_package) (λ target. not (is_of_input target))
    (λ target is. ap not ((bytes_eq-Decides target.«package» input_package).1 is)) requested.targets)

pub named_in_lines : (lines : List Held) → names_input (map requested_in lines) ≡ list_any targets_input_in lines
named_in_lines lines = any_map (λ (requested : Requested). list_any is_of_input requested.targets) requested_in lines
