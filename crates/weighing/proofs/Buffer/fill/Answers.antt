use Rattle.std.proofs.Common.{refl, arith, get_or-set_same}
use Rattle.weighing.proofs.Walking.{walking_none, walked, walking_whole, walking_part}
use Rattle.weighing.proofs.Buffer.fill.Goals as goal

pub loop-c-init : goal.loop-c-init
loop-c-init c = walking_none _ _ _ _ c.requires.0 c.requires.1 _ (get_or-set_same c.args.self.now.starts 0 0 0 (omega arith))

pub loop-c-preserved-then-r-rhs : goal.loop-c-preserved-then-r-rhs
loop-c-preserved-then-r-rhs c =
    let o = c.loop-c.invariant in
    let room = c.if-has_room.ensures.0 refl in
    let added = c.gather-r.ensures.1 in
    rw (added.starts, added.segments)
    (walking_whole _ _ _ _ c.requires.0 c.requires.1 _ o room.0 room.1 c.loop-c-test.true (omega arith) c.gather-r.ensures.0 added.added c.if-r-rhs.true)

pub loop-c-preserved : goal.loop-c-preserved
loop-c-preserved c =
    let o = c.loop-c.invariant in
    let room = c.if-has_room.ensures.0 refl in
    let added = c.gather-r.ensures.1 in
    rw (added.starts, added.segments)
    (walking_part _ _ _ _ c.requires.0 c.requires.1 _ o room.0 room.1 c.loop-c-test.true (omega arith) c.gather-r.ensures.0 added.added (omega (arith, c.gather-r.ensures.0.inside)))

pub returns-after-loop-c : goal.returns-after-loop-c
returns-after-loop-c c = walked _ _ _ _ c.requires.0 c.requires.1 _ c.loop-c.invariant (λ l h m. absurd (omega arith))

pub returns-else-has_room : goal.returns-else-has_room
returns-else-has_room c = walked _ _ _ _ c.requires.0 c.requires.1 _ c.loop-c.invariant (λ l h m. let e = c.if-has_room.ensures.1 (h, m) in cc)
