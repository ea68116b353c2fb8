use Rattle.bz_buildozer.proofs.Words.{◌∙◌, ap, arith, file_at, file_left, is_some, List, opened_in, option_map, Some, sym, texts_of_keys, true≢false, used_in, with_opened}
use Rattle.bz_buildozer.specs.Found as p
use Rattle.bz_buildozer.proofs.PlaceSteps.{file_in, is_open, kept_by, put_in, within_items}
use Rattle.bz_buildozer.proofs.workspace.Workspace.act.Goals as goal

pub index_mut-requires : goal.index_mut-requires
index_mut-requires g c =
    let within = within_items c.args.place c.self.inside.used.items c.args.self.now c.self.view_is c.requires in
    let length = c.self.inside.used.ok.0 in
    omega (arith, within, length)

pub unreachable-requires : goal.unreachable-requires
unreachable-requires g c =
    let there = c.index_mut.result.now in
    let some = ap (λ (used : List p.Used). is_some (file_at c.args.place used)) c.self.view_is ∙ c.requires in
    true≢false (sym (is_open c.self.inside.used.items c.args.place there there c.index_mut.ensures.value some) ∙ ap is_some c.in-None.is)

pub invariant_of-self : goal.invariant_of-self
invariant_of-self g c =
    let there = c.index_mut.result.now in
    let done = c.act.ensures.acts in
    kept_by (texts_of_keys c.self.inside.names.keys) c.args.place (Some (file_left c.args.journals c.act.result done.0 (opened_in c.in-Some.opened))) _ _ c.self.invariant
    (put_in c.self.inside.used.items c.args.place there there (record there { file = Some c.act.new.self })
    (Some (file_left c.args.journals c.act.result done.0 (opened_in c.in-Some.opened))) c.index_mut.ensures.value
    (ap (λ (f : p.Opened). record (used_in there) { file = Some f }) done.2))

pub returns-clause-acts : goal.returns-clause-acts
returns-clause-acts g c =
    let done = c.act.ensures.acts in
    let items = c.self.inside.used.items in
    let there = c.index_mut.result.now in
    let file = opened_in c.in-Some.opened in
    let some = ap (λ (used : List p.Used). is_some (file_at c.args.place used)) c.self.view_is ∙ c.requires in
    record {
      file = file;
      history = done.0;
      there = ap (file_at c.args.place) (sym c.self.view_is) ∙ file_in items c.args.place there there c.index_mut.ensures.value some
          ∙ ap (option_map opened_in) c.in-Some.is;
      keeps = done.1;
      kept = put_in items c.args.place there there (record there { file = Some c.act.new.self }) (Some (file_left c.args.journals c.act.result done.0 file)) c.index_mut.ensures.value
          (ap (λ (f : p.Opened). record (used_in there) { file = Some f }) done.2)
          ∙ ap (with_opened c.args.place (Some (file_left c.args.journals c.act.result done.0 file))) c.self.view_is;
      pair = done.3;
      plain = done.4;
    }

pub returns-clause-grows : goal.returns-clause-grows
returns-clause-grows g c = c.act.ensures.grows
