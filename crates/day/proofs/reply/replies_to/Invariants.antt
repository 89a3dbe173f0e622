use Rattle.std.proofs.Common.{◌≡◌, ◌++◌, vec_items, drop}
use Rattle.day.specs.Replies.{replies_of}
use Rattle.day.proofs.reply.replies_to.Given as goal

-- the replies so far, and those that the answers that are left give to the rest, are all
abbrev pub invariant-loop-next : goal.invariant-loop-next
invariant-loop-next l = vec_items l.replies ++ replies_of l.fn.book (drop l.next-index l.expected) l.left ≡ replies_of l.fn.book l.expected l.fn.answers
