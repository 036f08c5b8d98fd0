-- That what is left to write has room, after a part was written. Assumes nothing.
use Rattle.std.proofs.Common.{ℕ, ◌+◌, ◌≤◌, ◌<◌, ◌^◌, List, ◌++◌, arith, length, length-append}
use Rattle.lists.specs.Entries.{Entry}
use Rattle.lists.specs.Puts.{Puts}
use Rattle.lists.specs.declared.Triplets.{Triplets}
use Rattle.lists.proofs.Puts as puts
use Rattle.dealing.specs.Ahead.{PutsAhead}
use Rattle.dealing.proofs.Ahead as ahead

-- the same with n places ahead
pub room-before : (at n b : ℕ) (xs ys : List Entry) → at + length (xs ++ ys) + n < b → at + length xs + n < b
room-before at n b xs ys h = omega (arith, length-append xs ys)

pub room_after : {n : ℕ} {xs : List Entry} {t t' : Triplets} {b : ℕ} (ys : List Entry)
    → PutsAhead n xs t t' → t.at + length (xs ++ ys) + n < b → t'.at + length ys + n < b
room_after {xs = xs} ys e h = omega (arith, ahead.pos e, length-append xs ys)

-- without them, in 64 bits
pub room-plain : (at n : ℕ) (xs : List Entry) → at + length xs + n < 2 ^ 31 → at + length xs < 2 ^ 64
room-plain at n xs h = omega arith

-- ---- a list of blocks that has room: so has each block, behind others that were written

-- the first is no longer than the second; `search shorter` finds it of some blocks of a list of blocks, whichever stand between or behind them
pub record Shorter (xs ys : List Entry) : Type 0 where
  pub le : length xs ≤ length ys

pub shorter_whole : (xs : List Entry) → Shorter xs xs
shorter_whole xs = record { le = omega arith }

pub shorter_more : (xs ys zs : List Entry) → Shorter xs ys → Shorter xs (ys ++ zs)
shorter_more xs ys zs p = record { le = omega (arith, p.le, length-append ys zs) }

pub shorter_both : (xs ys zs : List Entry) → Shorter xs ys → Shorter (xs ++ zs) (ys ++ zs)
shorter_both xs ys zs p = record { le = omega (arith, p.le, length-append xs zs, length-append ys zs) }

pub ruleset shorter = (shorter_whole, shorter_more, shorter_both)

pub room-start : (at n b : ℕ) (xs all : List Entry) → Shorter xs all → at + length all + n < b → at + length xs + n < b
room-start at n b xs all p h = omega (arith, p.le)

pub room_next : {n : ℕ} {xs : List Entry} {t t' : Triplets} {b : ℕ} (ys all : List Entry)
    → PutsAhead n xs t t' → Shorter (xs ++ ys) all → t.at + length all + n < b → t'.at + length ys + n < b
room_next {xs = xs} ys all e p h = omega (arith, ahead.pos e, length-append xs ys, p.le)

-- the same with no places ahead
pub plain-start : (at b : ℕ) (xs all : List Entry) → Shorter xs all → at + length all < b → at + length xs < b
plain-start at b xs all p h = omega (arith, p.le)

pub plain-next : {xs : List Entry} {t t' : Triplets} {b : ℕ} (ys all : List Entry)
    → Puts xs t t' → Shorter (xs ++ ys) all → t.at + length all < b → t'.at + length ys < b
plain-next {xs} ys all e p h = omega (arith, puts.pos e, length-append xs ys, p.le)
