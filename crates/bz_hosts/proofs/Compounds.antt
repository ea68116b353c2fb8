-- A statement with suites as its headers one after the other: what each header has from those after it, they all have.
use Rattle.bz_hosts.proofs.Words.{[], ◌∷◌, ◌≡◌, AllByRecursion, append-nil, AtParts, Begins, Bytes, codes, Fits, inl, inr, is_header, IsNonterminal, Kind, Kind as k, List, no_more, no_such, once_more, Part, Stands, subst, sym, true}
use Rattle.bz_grammar.specs.Shapes as s
use Rattle.bz_hosts.proofs.SeenParts.{all_parted}
use Rattle.bz_hosts.proofs.HeadParts.{Headed, fits_cut, tested, def_headed, for_headed, if_headed, elif_headed, else_headed}

-- the first header of a statement of a kind, its word, and what follows it: only an if has others
pub data First : Kind → Bytes → List Part → Type 0 where
  function : First k.Def (codes "def") []
  loop : First k.ForStmt (codes "for") []
  condition : (back : List Part) → First k.IfStmt (codes "if") back

-- the word of a further header of an if, and what follows it
pub data Further : Bytes → List Part → Type 0 where
  alternative : (back : List Part) → Further (codes "elif") back
  otherwise : Further (codes "else") []

-- Known: what is known of each part
module _ (Known : Part → Type 0) where
  -- of the parts of a header, and of what follows it
  abbrev pub KnownOf : {kind : Kind} {word : Bytes} {back xs : List Part} → Headed kind word back xs → Type 0
  KnownOf {kind} {word} {back} {xs} h = AllByRecursion Known h.front × AllByRecursion Known (h.mark ∷ h.own ∷ back)

  known_of : {kind : Kind} {word : Bytes} {back xs : List Part} (h : Headed kind word back xs) → AllByRecursion Known xs → KnownOf h
  known_of {kind} {word} {back} {xs} h g = all_parted Known h.front (h.mark ∷ h.own ∷ back) (subst (AllByRecursion Known) h.cut g)

  -- what alternatives have, and what a statement has
  module _ (Others : List Part → Type 0) (Whole : Kind → List Part → Type 0) (none : Others [])
      (further : (word : Bytes) (back xs : List Part) → Further word back → (h : Headed k.IfStmt word back xs) → KnownOf h → Others back → Others xs)
      (whole : (kind : Kind) (word : Bytes) (back xs : List Part) → First kind word back → (h : Headed kind word back xs) → KnownOf h → Others back → Whole kind xs) where
    alternatives : (xs : List Part) → Fits IsNonterminal s.branches xs → AllByRecursion Known xs → AtParts Stands Begins Begins xs → Others xs
    alternatives [] (no_more (inr h)) g at_ = none
    alternatives (x ∷ xs) (no_more (inr h)) g at_ = absurd h
    alternatives xs (no_more (inl h)) g at_ =
        let head : Headed k.IfStmt (codes "else") [] xs = else_headed xs xs [] (sym (append-nil xs)) h at_ in
        further (codes "else") [] xs otherwise head (known_of head g) none
    alternatives xs (once_more front back e h t) g at_ =
        let head : Headed k.IfStmt (codes "elif") back xs = elif_headed xs front back e h at_ in
        let known : KnownOf head = known_of head g in
        further (codes "elif") back xs (alternative back) head known (alternatives back t known.1.1.1 head.following)

    pub statement : (kind : Kind) → is_header kind ≡ true → (xs : List Part) → Fits IsNonterminal (s.bzl_shape kind) xs → AllByRecursion Known xs → AtParts Stands Begins Begins xs → Whole kind xs
    statement k.Def i xs h g at_ =
        let head : Headed k.Def (codes "def") [] xs = def_headed xs xs [] (sym (append-nil xs)) h at_ in
        whole k.Def (codes "def") [] xs function head (known_of head g) none
    statement k.ForStmt i xs h g at_ =
        let head : Headed k.ForStmt (codes "for") [] xs = for_headed xs xs [] (sym (append-nil xs)) h at_ in
        whole k.ForStmt (codes "for") [] xs loop head (known_of head g) none
    statement k.IfStmt i xs h g at_ =
        let cut = fits_cut (tested (codes "if")) s.branches xs h in
        let head : Headed k.IfStmt (codes "if") cut.1 xs = if_headed xs cut.0 cut.1 cut.2 cut.3 at_ in
        let known : KnownOf head = known_of head g in
        whole k.IfStmt (codes "if") cut.1 xs (condition cut.1) head known (alternatives cut.1 cut.4 known.1.1.1 head.following)
    statement _ i xs h g at_ = no_such i
