-- What the proofs of this crate speak of, from std, from the crates below and from its own specs.
pub use Rattle.bz_hint.specs.Refusing.{first_refusing, named_at, refuses}
pub use Rattle.bz_items.specs.Characters.{Bytes}
pub use Rattle.std.proofs.Common.{◌+◌, ◌<◌, ◌∙◌, ◌∷◌, ◌≡◌, ap, Bool, drop, false, get_or, if◌then◌else◌, is_some, length, List, None, Option, option_and_then, option_copied, option_map, refl, rules, Some, subst, sym, ℕ}
