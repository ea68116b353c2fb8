use Rattle.bz_buildozer.proofs.Words.{◌∙◌, ap, file_at, map, Opened, opened_in, option_map, texts_of_keys, used_in, with_opened}
use Rattle.bz_buildozer.proofs.PlaceSteps.{file_there, kept_by}
use Rattle.bz_buildozer.proofs.workspace.Workspace.put.Goals as goal

pub invariant_of-self : goal.invariant_of-self
invariant_of-self c = kept_by (texts_of_keys c.self.inside.names.keys) c.args.place (option_map opened_in c.args.file)
    (map used_in c.self.inside.used.items) (map used_in c.put_file.new.used.items) c.self.invariant c.put_file.ensures

pub returns-clause-put : goal.returns-clause-put
returns-clause-put c = c.put_file.ensures ∙ ap (with_opened c.args.place (option_map opened_in c.args.file)) c.self.view_is

pub returns-clause-place : goal.returns-clause-place
returns-clause-place c = c.opened_at.ensures.at ∙ ap (option_map (λ (_ : Opened). c.args.place)) (ap (file_at c.args.place) (returns-clause-put c)
    ∙ file_there c.args.place (option_map opened_in c.args.file) c.args.self.now c.requires)
