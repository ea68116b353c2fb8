-- Parts of BUILD files, by their rows and by their lists.
use Rattle.bz_grammar.proofs.Words.{[], ◌++◌, ◌<◌, ◌↔◌, ◌∷◌, ◌≡◌, ◌≤◌, AllByRecursion, Bool, both_ways, cases_lt, drop, end_of-Part, false, inl, inr, IsBuildPart, IsBuildRow, IsTrue, items-the_row-Part, Kind, kind_number, List, more_of-Part, Node, Part, refl, Row_of-Part, subst, suc, sym, take, zero, ℕ}
use Rattle.bz_grammar.specs.declared.tree.Part.TheVariants as v
use Rattle.bz_grammar.proofs.Nested.{row_of, items_of_row}

abbrev pub AllBuild : List Part → Type 0
AllBuild ps = AllByRecursion IsBuildPart ps

pub row_build : (m : _) (r : Row_of-Part m) → IsBuildRow r → AllBuild (items-the_row-Part m r)
row_build m end_of-Part h = tt
row_build m (more_of-Part x rest) h = (h.0, row_build _ rest h.1)

build_row : (m : _) (r : Row_of-Part m) → AllBuild (items-the_row-Part m r) → IsBuildRow r
build_row m end_of-Part h = tt
build_row m (more_of-Part x rest) h = (h.0, build_row _ rest h.1)

module _ (x : Part) (n : Node) (is : x ≡ v.Node n) where
  pub build_node : kind_number n.kind < 35 → AllBuild n.parts → IsBuildPart x
  build_node h g = rw is (h, build_row _ (row_of n).1 (subst AllBuild (sym (items_of_row n)) g))

  pub node_build : IsBuildPart x → AllBuild n.parts
  node_build h = let g : IsBuildPart (v.Node n) = rw is at h in subst AllBuild (items_of_row n) (row_build _ (row_of n).1 g.1)

-- ---- a stack of parts

pub older_kind : (b : Bool) (n : ℕ) → (IsTrue b ↔ (35 ≤ n)) → b ≡ false → n < 35
older_kind b n is e = elim (cases_lt n 35) [ inl lt ↦ lt | inr le ↦ absurd (both_ways b e (is.1 le)) ]

build_both : (ps qs : List Part) → AllBuild ps → AllBuild qs → AllBuild (ps ++ qs)
build_both [] qs h g = g
build_both (p ∷ ps) qs h g = (h.0, build_both ps qs h.1 g)

build_take : (n : ℕ) (ps : List Part) → AllBuild ps → AllBuild (take n ps)
build_take zero ps h = tt
build_take (suc n) [] h = tt
build_take (suc n) (p ∷ ps) h = (h.0, build_take n ps h.1)

build_drop : (n : ℕ) (ps : List Part) → AllBuild ps → AllBuild (drop n ps)
build_drop zero ps h = h
build_drop (suc n) [] h = tt
build_drop (suc n) (p ∷ ps) h = build_drop n ps h.1

-- parts after a place, closed into a node of a kind that BUILD files have
pub closed_build : (ps : List Part) (n : ℕ) (kind : Kind) → kind_number kind < 35 → AllBuild ps → AllBuild (take n ps ++ v.Node (record { kind = kind; parts = drop n ps }) ∷ [])
closed_build ps n kind lt h = build_both (take n ps) _ (build_take n ps h) (build_node (v.Node (record { kind = kind; parts = drop n ps })) (record { kind = kind; parts = drop n ps }) refl lt (build_drop n ps h), tt)
