-- Where each step leaves less to do, less is left at whatever comes later.
use Rattle.std.proofs.Common.{ℕ, ◌≤◌, ◌<◌, arith}
use Rattle.lp_preproc.specs.Expansion.{Outcome, Whole, Faulty, LeadsTo, next}
use Rattle.lp_preproc.specs.Expansion as to
use Rattle.lp_preproc.specs.Falls.{weight, IsLess, Falls, goes, ends, fails, asks, reads, tests}
use Rattle.lp_preproc.specs.Paths.{Leads, stays, went, asked, lexed, tested}
use Rattle.lp_preproc.specs.State.{Setting, State, Next, Goes}

-- each step leaves less to do
abbrev pub AllFall : Type 0
AllFall = (c : Setting) (s : State) → Falls s (next c s)

-- nothing was taken back
abbrev Above : ℕ → Outcome → Type 0
Above n (Whole s) = n ≤ s.put_in
Above n (Faulty kind line) = Unit {0}

above : (m n : ℕ) (o : Outcome) → m ≤ n → Above n o → Above m o
above m n (Whole s) h g = omega (arith, h, g)
above m n (Faulty kind line) h g = tt

rises : AllFall → {c : Setting} {n : Next} {o : Outcome} (a : State) → Falls a n → LeadsTo c n o → Above a.put_in o
rises f a (ends h) to.ends = h
rises f a fails to.fails = tt
rises f {c} {o = o} a (goes {t} h) (to.goes g) = above a.put_in t.put_in o h.1 (rises f t (f c t) g)
rises f {c} a (asks {q} h b k) (to.asks {r = r} (to.goes i) g) = rises f a (k r (rises f q (f c q) i)) g
rises f a (asks h b k) (to.asks_fault i) = tt
rises f a (reads k) (to.reads {ts = ts} l g) = rises f a (k ts l) g
rises f a (reads k) (to.reads_fault at kind l) = tt
rises f a (tests k) (to.tests {z = z} v g) = rises f a (k z) g
rises f a (tests k) (to.tests_fault v) = tt

-- what falls below less falls below more
wider : (a s : State) → IsLess s a → {n : Next} → Falls s n → Falls a n
wider a s l (goes h) = goes (omega (arith, l.0, h.0), omega (arith, l.1, h.1), omega (arith, l.2, h.2))
wider a s l (ends h) = ends (omega (arith, l.1, h))
wider a s l fails = fails
wider a s l (asks h b k) = asks (omega (arith, l.0, h)) (omega (arith, l.1, b)) (λ r g. wider a s l (k r g))
wider a s l (reads k) = reads (λ ts g. wider a s l (k ts g))
wider a s l (tests k) = tests (λ z. wider a s l (k z))

follow : AllFall → {c : Setting} {n m : Next} (a : State) → Falls a n → Leads c n m → Falls a m
follow f a h stays = h
follow f {c} a (goes {t} h) (went g) = wider a t h (follow f t (f c t) g)
follow f {c} a (asks {q} h b k) (asked {r = r} (to.goes i) g) = follow f a (k r (rises f q (f c q) i)) g
follow f a (reads k) (lexed {ts = ts} l g) = follow f a (k ts l) g
follow f a (tests k) (tested {z = z} v g) = follow f a (k z) g

less : {a t : State} → Falls a (Goes t) → IsLess t a
less (goes h) = h

-- a turn leaves less to do
pub turn_falls : AllFall → (c : Setting) (s t : State) → Leads c (next c s) (Goes t) → weight t < weight s
turn_falls f c s t g = (less (follow f s (f c s) g)).2
