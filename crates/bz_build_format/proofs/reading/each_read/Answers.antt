use Rattle.bz_build_format.proofs.Words.{[], ◌++◌, ◌+◌, ◌∙◌, ◌∷◌, AreAmong, AreRead, arith, IsPushed, IsPutAmong, List, nil_from_length, Part, PartWindow, refl, spelled_parts, subst, sym, take, text_with}
use Rattle.bz_build_format.proofs.Windowed.{AreBefore, begun, ended, ended_by, next, none_there, ok_gives}
use Rattle.bz_build_format.proofs.reading.each_read.Goals as goal

pub loop-window-init : goal.loop-window-init
loop-window-init c =
    subst (λ (l : List PartWindow). AreBefore c.args.parts.now (text_with c.args.windows.now c.args.parts.now) l 0 c.args.parts.now c.args.windows.now) (sym c.new-read.ensures)
    (begun c.lines_split.ensures c.lines_join.ensures.build c.args.parts.now c.args.windows.now c.requires.legal c.requires.among)

pub returns-then-reach-left : goal.returns-then-reach-left
returns-then-reach-left c =
    let t = c.in-Some.window.now in
    let left = c.loop-window.left.now in
    let one : AreRead (spelled_parts (take t.from left) ++ t.text) (c.in_ok-new.new ∷ []) left = subst (λ s. AreRead (spelled_parts (take t.from left) ++ s) (c.in_ok-new.new ∷ []) left) c.as_slice-text.ensures
    (ok_gives (λ w. AreRead (spelled_parts (take t.from left) ++ c.as_slice-text.result.now) (w ∷ []) left) c.end_window.result c.in_ok-new.new (sym c.ok.ensures.value ∙ c.in_ok-new.was) c.end_window.ensures.ok) in
    let pushed = ok_gives (λ stay. IsPushed c.loop-window.read c.loop-window.kept c.in_ok-new.new (t.from + t.gone) c.push_window.new.read stay) c.push_window.result c.in_ok-ok.field-0
    (sym c.ok-then-reach-left.ensures.value ∙ c.in_ok-ok.was) c.push_window.ensures in
    ended_by c.lines_join.ensures.build c.args.parts.now (text_with c.args.windows.now c.args.parts.now) c.loop-window.read c.push_window.new.read c.loop-window.kept (t.from + t.gone) c.in_ok-ok.field-0 left t
    c.loop-window.texts.now c.in-Some.others.now c.in_ok-new.new c.loop-window.invariant c.in-Some.ensures.cases.0 (none_there c.in-Some.others.now c.is_empty.result c.is_empty.ensures c.if-not-is_empty.false)
    c.requires.short refl c.if-reach-left.true one (omega (arith, one.0.0, c.if-reach-left.true)) pushed

pub loop-window-preserved : goal.loop-window-preserved
loop-window-preserved c =
    let t = c.in-Some.window.now in
    let left = c.loop-window.left.now in
    let reach = t.from + t.gone in
    let total = text_with c.args.windows.now c.args.parts.now in
    let pushed = ok_gives (λ stay. IsPushed c.loop-window.read c.loop-window.kept c.in_ok-new-2.new reach c.push_window-in-Some.new.read stay) c.push_window-in-Some.result c.in_ok-kept.kept
    (sym c.ok-in-Some.ensures.value ∙ c.in_ok-kept.was) c.push_window-in-Some.ensures in
    subst (λ (ps : List Part). AreBefore c.args.parts.now total c.push_window-in-Some.new.read c.in_ok-kept.kept ps c.in-Some.others.now) (sym c.split_at-in-Some.ensures.back)
    (next c.lines_join.ensures.build c.lines_split.ensures c.args.parts.now total c.loop-window.read c.push_window-in-Some.new.read c.loop-window.kept reach c.in_ok-kept.kept left t c.loop-window.texts.now
    c.in-Some.others.now c.in_ok-new-2.new c.loop-window.invariant c.in-Some.ensures.cases.0 c.requires.short refl
    (omega (arith, (subst (λ l. AreAmong l left) c.in-Some.ensures.cases.0 c.loop-window.invariant.among).0, c.if-reach-left.false))
    (subst (λ s. IsPutAmong reach left c.in_ok-new-2.new (spelled_parts (take t.from left) ++ s)) c.as_slice-text.ensures c.in_ok-new-2.ensures) pushed)

pub returns : goal.returns
returns c =
    ended c.lines_join.ensures.build c.args.parts.now (text_with c.args.windows.now c.args.parts.now) c.loop-window.read c.loop-window.kept c.loop-window.left.now c.loop-window.texts.now c.loop-window.invariant
    (nil_from_length c.loop-window.texts.now c.in_default.ensures.cases) c.requires.short
