use Rattle.std.proofs.Common.{◌≡◌, ◌+◌, ◌++◌, [], ◌∷◌, length, sym, ap, ◌∙◌, arith, rules}
use Rattle.std.proofs.lemmas.List.{length-append, append_assoc}
use Rattle.std.specs.Vec.Iter.{into_iter_items}
use Rattle.monitor.specs.MonitorState.{MonitorState}
use Rattle.books.specs.Meaning.{Meaning}
use Rattle.desk.specs.Serving.{waiting_values, opened_with}
use Rattle.desk.proofs.SessionExtends.{begins, goes_on, served, one_more, none_left}
use Rattle.desk.proofs.serving.serve.Goals as goal

-- no call was made, and there is room for all
pub loop-request-init : goal.loop-request-init
loop-request-init g c =
    let m : Meaning = g.B.Book.meaning in
    let s : MonitorState = c.args.monitor.now in (
      tt,
      tt,
      c.into_iter-request-iterator.ensures.into_iter_gives.0,
      grind arith,
      omega (arith, c.in_ok-tray.ensures.len),
      c.in_ok-told.ensures.len,
      search rules,
      search rules,
      ([], begins m (opened_with s) _ _ c.in_ok-told.ensures.items (ap waiting_values c.in_ok-tray.ensures.items)),
    )

pub answer-requires : goal.answer-requires
answer-requires g c =
    let (a, b, all, left, few, told, room, places, past) = c.loop-request.invariant in
    record { room = omega (arith, one_more c.loop-request.yielded (into_iter_items c.loop-request.request-iterator) (into_iter_items c.next.new.self) c.args.requests.items c.in-Some.request all c.in-Some.ensures.steps.0, few, room) }

pub push_reserved-requires : goal.push_reserved-requires
push_reserved-requires g c =
    let (a, b, all, left, few, told, room, places, past) = c.loop-request.invariant in
    omega (arith, one_more c.loop-request.yielded (into_iter_items c.loop-request.request-iterator) (into_iter_items c.next.new.self) c.args.requests.items c.in-Some.request all c.in-Some.ensures.steps.0, told, places)

-- one call more was made
pub loop-request-preserved : goal.loop-request-preserved
loop-request-preserved g c =
    let m : Meaning = g.B.Book.meaning in
    let s0 : MonitorState = c.args.monitor.now in
    let s : MonitorState = c.loop-request.monitor in
    let t : MonitorState = c.answer.new.monitor in
    let (a, b, all, left, few, told, room, places, past) = c.loop-request.invariant in
    let ys = c.loop-request.yielded in
    let x = c.in-Some.request in
    let longer : length (ys ++ (x ∷ [])) ≡ length ys + 1 = length-append ys (x ∷ []) in (
      tt,
      tt,
      append_assoc ys (x ∷ []) _ ∙ ap (λ z. ys ++ z) (sym c.in-Some.ensures.steps.0) ∙ all,
      omega (arith, longer, left, c.in-Some.ensures.steps.1),
      omega (arith, longer, c.answer.ensures.longer, few),
      omega (arith, longer, c.push_reserved.ensures.len, told),
      omega (arith, c.answer.ensures.capacity, room),
      omega (arith, c.push_reserved.ensures.capacity, places),
      goes_on m (opened_with s0) ys x _ _ c.answer.result s t _ _ past c.answer.ensures.asks c.push_reserved.ensures.items,
    )

-- all were made
pub returns-clause-served : goal.returns-clause-served
returns-clause-served g c =
    let m : Meaning = g.B.Book.meaning in
    let s : MonitorState = c.args.monitor.now in
    let t : MonitorState = c.loop-request.monitor in
    let (a, b, all, left, few, told, room, places, past) = c.loop-request.invariant in
    let full : length c.loop-request.yielded ≡ length c.args.requests.items = omega (arith, left, c.in-None.ensures.steps.0) in
    served c.every_history_is_lawful.ensures.holds m g.met.B.Book.step_tests g.met.B.Book.step_gives_codes s t c.loop-request.yielded c.args.requests.items _ _ _ all (none_left _ _ _ all full) past
