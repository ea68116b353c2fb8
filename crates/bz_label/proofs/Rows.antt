-- Rows worked out by hand, that the definitions answer as the rules say.
use Rattle.bz_label.proofs.Words.{[], ◌∷◌, ◌≡◌, absent, bare_name, canonical_named, codes, colon_name, Equal, false, Greater, is_joined, is_label_attribute, is_list_attribute, is_package, is_path, is_repository_name, is_same, is_sorted, IsLabel, key_order, key_pieces, label_in, last_piece, Less, main, None, package_alone, priority_of, refl, repository_alone, shortened, Some, true, which_of, whole}
use Rattle.bz_label.specs.declared.target.Which.TheVariants.{All, Kind, Line, Package, Name}

-- the seven keys, each below the next
pub seven_keys : (key_order (codes "a") (codes "a.c") ≡ Less) × (key_order (codes "a.c") (codes "a-b") ≡ Less) × (key_order (codes "a-b") (codes "b.c") ≡ Less)
    × (key_order (codes "b.c") (codes ":z") ≡ Less) × (key_order (codes ":z") (codes "//x:a") ≡ Less) × (key_order (codes "//x:a") (codes "@r//a") ≡ Less)
seven_keys = (refl, refl, refl, refl, refl, refl)

-- a.b and a:b have the same pieces, and differ as texts; a slash alone is in the first group
pub piece_rows : (key_pieces (codes "a.b:c") ≡ codes "a" ∷ codes "b" ∷ codes "c" ∷ []) × (key_order (codes "a.b") (codes "a:b") ≡ Less) × (key_order (codes "a:b") (codes "a.c") ≡ Less)
    × (key_order (codes "ab") (codes "a.b") ≡ Greater) × (key_order (codes "/z") (codes ":a") ≡ Less) × (key_order (codes "a") (codes "a") ≡ Equal)
    × (last_piece (codes "a/b") ≡ codes "b") × (last_piece (codes "a") ≡ codes "a") × (last_piece [] ≡ [])
    × (is_joined (codes "a/b") ≡ true) × (is_joined (codes "a//b") ≡ false) × (is_joined (codes "/a") ≡ false) × (is_joined (codes "a/") ≡ false) × (is_joined [] ≡ false)
piece_rows = (refl, refl, refl, refl, refl, refl, refl, refl, refl, refl, refl, refl, refl, refl)

pub table_rows : (is_sorted (codes "cc_library") (codes "srcs") ≡ true) × (is_sorted (codes "genrule") (codes "srcs") ≡ false) × (is_sorted (codes "genrule") (codes "deps") ≡ true)
    × (is_sorted (codes "t") (codes "outs") ≡ false) × (is_label_attribute (codes "srcs") ≡ true) × (is_label_attribute (codes "tags") ≡ false) × (is_list_attribute (codes "tags") ≡ true)
    × (is_list_attribute (codes "linkopts") ≡ true) × (is_list_attribute (codes "name") ≡ false) × (priority_of (codes "name") ≡ 0) × (priority_of (codes "hdrs") ≡ 8)
    × (priority_of (codes "visibility") ≡ 9) × (priority_of (codes "exports") ≡ 10) × (priority_of (codes "alwayslink") ≡ 13)
table_rows = (refl, refl, refl, refl, refl, refl, refl, refl, refl, refl, refl, refl, refl, refl)

-- //a/b in package p; @//a/b:c; @@r; :x; x
pub label_rows : IsLabel (codes "p") (codes "//a/b") (record { repository = []; «package» = codes "a/b"; name = codes "b" })
    × IsLabel (codes "p") (codes "@//a/b:c") (record { repository = codes "@"; «package» = codes "a/b"; name = codes "c" })
    × IsLabel (codes "p") (codes "@@r//:c") (record { repository = codes "@@r"; «package» = []; name = codes "c" })
    × IsLabel (codes "p") (codes "@r") (record { repository = codes "@r"; «package» = []; name = codes "r" })
    × IsLabel (codes "p") (codes ":x") (record { repository = []; «package» = codes "p"; name = codes "x" })
    × IsLabel (codes "p") (codes "x/y") (record { repository = []; «package» = codes "p"; name = codes "x/y" })
    × (is_path (codes "a//b") ≡ false) × (is_path (codes "a:b") ≡ false) × (is_repository_name (codes "r/s") ≡ false)
label_rows = (
  package_alone (record { repository = absent refl; «package» = refl; name = refl; spelled = refl }),
  whole (record { repository = main refl; «package» = refl; name = refl; spelled = refl }),
  whole (record { repository = canonical_named (codes "r") refl refl; «package» = refl; name = refl; spelled = refl }),
  repository_alone (record { repository = refl; «package» = refl; name = refl; spelled = refl }),
  colon_name (record { repository = refl; «package» = refl; name = refl; spelled = refl }),
  bare_name (record { repository = refl; «package» = refl; name = refl; begins = refl; spelled = refl }),
  refl,
  refl,
  refl,
)

-- labels as functions: each form, and texts that are none
pub read_rows : (label_in (codes "p") (codes "@//b/x/b:c") ≡ Some (record { repository = codes "@"; «package» = codes "b/x/b"; name = codes "c" }))
    × (label_in (codes "p") (codes "@@r//a-b") ≡ Some (record { repository = codes "@@r"; «package» = codes "a-b"; name = codes "a-b" }))
    × (label_in (codes "p") (codes "@r") ≡ Some (record { repository = codes "@r"; «package» = []; name = codes "r" }))
    × (label_in (codes "p/q") (codes ":q") ≡ Some (record { repository = []; «package» = codes "p/q"; name = codes "q" }))
    × (label_in (codes "p/q") (codes "a.c/a") ≡ Some (record { repository = []; «package» = codes "p/q"; name = codes "a.c/a" }))
    × (label_in (codes "p") (codes "@:r:x:") ≡ None) × (label_in (codes "p") (codes "@@//:") ≡ None) × (label_in (codes "p") (codes "a//b") ≡ None)
    × (label_in (codes "p") [] ≡ None) × (label_in (codes "p") (codes "@") ≡ None) × (label_in (codes "p") (codes "///a") ≡ None)
read_rows = (refl, refl, refl, refl, refl, refl, refl, refl, refl, refl, refl)

-- what means the same
pub same_rows : (is_same (codes "p/q") (codes "//p/q:q") (codes ":q") ≡ true) × (is_same (codes "p/q") (codes "//p/p:p") (codes "//p/p") ≡ true)
    × (is_same (codes "a") (codes "@//a/p:p") (codes "//a/p") ≡ false) × (is_same [] (codes "@@//:") (codes "@@//:") ≡ true)
same_rows = (refl, refl, refl, refl)

-- shorter forms
pub short_rows : (shortened (codes "p/q") (codes "//p/q:q") ≡ codes ":q") × (shortened (codes "p") (codes "//p:p") ≡ codes ":p") × (shortened (codes "p") (codes "@//p:p") ≡ codes "@//p")
    × (shortened (codes "p") (codes "//a.c:a.c") ≡ codes "//a.c") × (shortened [] (codes "//:x") ≡ codes ":x") × (shortened (codes "p") (codes "@r:r") ≡ codes "@r:r")
short_rows = (refl, refl, refl, refl, refl, refl)

-- what follows a target's colon
pub word_rows : (which_of (codes "all") ≡ All) × (which_of (codes "*") ≡ All) × (which_of (codes "__pkg__") ≡ Package) × (which_of (codes "%cc_library") ≡ Kind (codes "cc_library"))
    × (which_of (codes "%02") ≡ Line 2) × (which_of (codes "%0") ≡ Line 0) × (which_of (codes "%4294967296") ≡ Line 4294967295) × (which_of (codes "%") ≡ Kind []) × (which_of (codes "%2x") ≡ Kind (codes "2x"))
    × (which_of (codes "a:b") ≡ Name (codes "a:b")) × (is_package (codes "-") ≡ true) × (is_package [] ≡ true) × (is_package (codes "a/b") ≡ true) × (is_package (codes "a//b") ≡ false)
word_rows = (refl, refl, refl, refl, refl, refl, refl, refl, refl, refl, refl, refl, refl, refl)
