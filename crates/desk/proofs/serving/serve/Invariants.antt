use Rattle.std.proofs.Common.{◌≡◌, ◌+◌, ◌≤◌, ◌++◌, List, map, length, vec_len, vec_capacity}
use Rattle.std.specs.Vec.Iter.{into_iter_items, into_iter_len}
use Rattle.histories.specs.Events.{Event}
use Rattle.desk.specs.Serving.{request_value, waiting_values, opened_with, Session}
use Rattle.desk.proofs.serving.serve.Given as goal

-- the calls so far were made, and there is room for the rest
abbrev pub invariant-loop-request : goal.invariant-loop-request
invariant-loop-request g l =
    (goal.iterator-loop-request g).can_next l.request-iterator
    × (goal.iterator-loop-request g).is_finite l.request-iterator
    × (l.yielded ++ into_iter_items l.request-iterator ≡ l.fn.requests.items)
    × (into_iter_len l.request-iterator + length l.yielded ≡ length l.fn.requests.items)
    × (vec_len l.tray ≤ length l.yielded)
    × (vec_len l.told ≡ length l.yielded)
    × (length l.fn.requests.items ≤ vec_capacity l.tray)
    × (length l.fn.requests.items ≤ vec_capacity l.told)
    × ((es : List Event) × Session g.B.Book.meaning (opened_with l.fn.monitor) (map request_value l.yielded) l.told.items (record { monitor = l.monitor; tray = waiting_values l.tray.items; happened = es }))
