use Rattle.bz_journal.proofs.Words.{◌∙◌, ◌≡◌, ap, IsSession, map, refl, rules, SessionState, sha256, string_bytes, subst, sym, texts_of, trail_at}
use Rattle.bz_journal.proofs.Resuming.{knows, lasts, same_state}
use Rattle.bz_journal.proofs.session.Session.of_resumed.Goals as goal

pub invariant_of-result : goal.invariant_of-result
invariant_of-result c =
    let r = c.args.resumed in
    let current = string_bytes c.in_ok-package.package in
    let named : current ≡ r.«package» = search rules in
    let same = same_state r.tree c.into_vec.result.items r.steps c.into_vec-3.result.items r.notes current current r.cursor r.cursor
    c.into_vec.ensures c.into_vec-3.ensures refl in (
      subst (λ (s : SessionState). IsSession s) (sym same) (lasts c.texts_kept.ensures c.requires.0 c.requires.1 current r c.requires.2 named),
      c.into_vec-2.ensures ∙ knows c.requires.0 c.requires.1 r c.requires.2 ∙ ap (λ steps. map sha256 (texts_of (trail_at r.tree steps r.cursor))) (sym c.into_vec.ensures),
    )
