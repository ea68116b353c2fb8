-- What is tested on the two sides of a tree is that the record's steps are a trail to texts with the record's digests.
use Rattle.bz_resume.proofs.Words.{[], ◌++◌, ◌+◌, ◌<◌, ◌∙◌, ◌∷◌, ◌≡◌, ap, append_assoc, arith, drop, drop_at, drop_more, Edit, edits_of, get_or, get_or_at, IsCounted, IsTree, LeadOn, length, length-append, length-map, length-reverse, length-take-le, List, map, map-append, Node, Record, RecordAgrees, recorded_trail, refl, reverse, reverse-reverse, reverse_onto, sha256, spell_node, steps_back, steps_forward, StepsAgree, StepsAgreeAround, subst, swap_node, sym, take, take-append-drop, take_at, trees, trees_length, ℕ}

abbrev digest_of : Node → List ℕ
digest_of n = sha256 (spell_node n)

abbrev digests_on : Node → List (List Edit) → List (List ℕ)
digests_on n es = map digest_of (trees n es)

-- ---- one side

to_lead : (n : Node) (es : List (List Edit)) (ds : List (List ℕ)) → StepsAgree n es ds → LeadOn n es × (digests_on n es ≡ ds)
to_lead n [] [] h = (tt, refl)
to_lead n [] (d ∷ ds) h = absurd h
to_lead n (e ∷ es) [] h = absurd h
to_lead n (e ∷ es) (d ∷ ds) h =
    let r = to_lead (swap_node e n) es ds h.1 in
    ((h.0.0, r.0), ap (λ z. z ∷ digests_on (swap_node e n) es) h.0.1 ∙ ap (λ l. d ∷ l) r.1)

own_agrees : (n : Node) (es : List (List Edit)) → LeadOn n es → StepsAgree n es (digests_on n es)
own_agrees n [] h = tt
own_agrees n (e ∷ es) h = ((h.0, refl), own_agrees (swap_node e n) es h.1)

-- ---- lists

map_reversed : {X Y : Type 0} (f : X → Y) (xs : List X) → map f (reverse xs) ≡ reverse (map f xs)
map_reversed f [] = refl
map_reversed f (x ∷ xs) =
    ap (map f) (reverse_onto xs x []) ∙ map-append f (reverse xs) (x ∷ []) ∙ ap (λ l. l ++ f x ∷ []) (map_reversed f xs) ∙ sym (reverse_onto (map f xs) (f x) [])

map_twice : {X Y Z : Type 0} (g : Y → Z) (f : X → Y) (xs : List X) → map g (map f xs) ≡ map (λ x. g (f x)) xs
map_twice g f [] = refl
map_twice g f (x ∷ xs) = ap (λ l. g (f x) ∷ l) (map_twice g f xs)

cut_at : {X : Type 0} (xs : List X) (i : ℕ) (d : X) → i < length xs → take i xs ++ get_or xs i d ∷ drop (i + 1) xs ≡ xs
cut_at xs i d lt = ap (λ l. take i xs ++ l) (sym (drop_more xs i d lt)) ∙ take-append-drop i xs

after_at : {X : Type 0} (xs : List X) (y : X) (ys : List X) (i : ℕ) → length xs ≡ i → drop (i + 1) (xs ++ y ∷ ys) ≡ ys
after_at xs y ys i e =
    ap (drop (i + 1)) (sym (append_assoc xs (y ∷ []) ys)) ∙ drop_at (xs ++ y ∷ []) ys (i + 1) (length-append xs (y ∷ []) ∙ ap (λ k. k + 1) e)

-- ---- both

around : (n : Node) (back forward : List (List Edit)) → map sha256 (map spell_node (reverse (trees n back) ++ n ∷ trees n forward)) ≡ reverse (digests_on n back) ++ digest_of n ∷ digests_on n forward
around n back forward =
    map_twice sha256 spell_node (reverse (trees n back) ++ n ∷ trees n forward) ∙ map-append digest_of (reverse (trees n back)) (n ∷ trees n forward)
    ∙ ap (λ l. l ++ digest_of n ∷ digests_on n forward) (map_reversed digest_of (trees n back))

pub to_whole : (r : Record) (n : Node) → IsTree n → IsCounted r → StepsAgreeAround n r.cursor (edits_of r.steps) r.digests → RecordAgrees r n
to_whole r n tree counted h =
    let w = recorded_trail r n in
    let ds = r.digests in
    let back = to_lead n (steps_back w) (reverse (take r.cursor ds)) h.1 in
    let forward = to_lead n (steps_forward w) (drop (r.cursor + 1) ds) h.2 in
    let all : length (edits_of r.steps) ≡ length r.steps = length-map r.steps (λ t. t.edits) in (
      record { tree = tree; within = omega (arith, all, counted.0); back = back.0; forward = forward.0 },
      around n (steps_back w) (steps_forward w)
          ∙ ap (λ l. reverse l ++ digest_of n ∷ digests_on n (steps_forward w)) back.1
          ∙ ap (λ l. l ++ digest_of n ∷ digests_on n (steps_forward w)) (reverse-reverse (take r.cursor ds))
          ∙ ap (λ d. take r.cursor ds ++ d ∷ digests_on n (steps_forward w)) h.0
          ∙ ap (λ l. take r.cursor ds ++ get_or ds r.cursor [] ∷ l) forward.1
          ∙ cut_at ds r.cursor [] (omega (arith, counted.0, counted.2)),
    )

pub from_whole : (r : Record) (n : Node) → IsCounted r → RecordAgrees r n → StepsAgreeAround n r.cursor (edits_of r.steps) r.digests
from_whole r n counted h =
    let w = recorded_trail r n in
    let ds = r.digests in
    let back = digests_on n (steps_back w) in
    let forward = digests_on n (steps_forward w) in
    let is : reverse back ++ digest_of n ∷ forward ≡ ds = sym (around n (steps_back w) (steps_forward w)) ∙ h.1 in
    let size : length (reverse back) ≡ r.cursor =
    length-reverse back ∙ length-map (trees n (steps_back w)) digest_of ∙ trees_length n (steps_back w) ∙ length-reverse (take r.cursor w.steps) ∙ length-take-le r.cursor w.steps h.0.within in
    let front : take r.cursor ds ≡ reverse back = ap (take r.cursor) (sym is) ∙ take_at (reverse back) (digest_of n ∷ forward) r.cursor size in
    let rest : drop (r.cursor + 1) ds ≡ forward = ap (drop (r.cursor + 1)) (sym is) ∙ after_at (reverse back) (digest_of n) forward r.cursor size in (
      sym (ap (λ l. get_or l r.cursor []) (sym is) ∙ get_or_at (reverse back) (digest_of n) forward [] r.cursor size),
      subst (StepsAgree n (steps_back w)) (sym (reverse-reverse back) ∙ ap reverse (sym front)) (own_agrees n (steps_back w) h.0.back),
      subst (StepsAgree n (steps_forward w)) (sym rest) (own_agrees n (steps_forward w) h.0.forward),
    )
