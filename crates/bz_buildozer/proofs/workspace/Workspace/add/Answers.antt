use Rattle.bz_buildozer.proofs.Words.{[], ◌++◌, ◌∙◌, ◌∷◌, ap, Bytes, map, None, package_number, sym, texts_of_keys, used_in}
use Rattle.bz_buildozer.proofs.PlaceSteps.{kept_pushed, key_added}
use Rattle.bz_buildozer.proofs.workspace.Workspace.add.Goals as goal

pub invariant_of-self-2 : goal.invariant_of-self-2
invariant_of-self-2 c =
    let keys = texts_of_keys c.self.inside.names.keys in
    kept_pushed c.push.result c.unwrap.result keys (texts_of_keys c.insert.new.self.keys) c.self.inside.used.items c.reserve.new.self.items c.push.new.self.items
    (record { «package» = c.in_ok-package.package; file = None }) c.self.invariant
    (key_added c.self.inside.names.keys c.insert.new.self.keys c.in_ok-key.key c.args.package.now (map used_in c.self.inside.used.items) c.in_ok-key.ensures.items
    c.self.invariant (ap (package_number c.args.package.now) c.self.view_is ∙ c.requires) c.in_ok-insert.ensures.keys
    ∙ ap (λ (name : Bytes). keys ++ name ∷ []) (sym c.in_ok-package.ensures))
    c.in_ok-reserve.ensures.items c.push.ensures.items c.unwrap.ensures
