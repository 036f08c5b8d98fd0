-- A network with d more of one parameter.
use Rattle.std.specs.Prelude.{ℕ, cond, eqb}
use Rattle.records.specs.AcNetwork.{BranchData, AcNetwork}
use Rattle.ring.specs.Ops.{Ops}
use Rattle.interface.specs.declared.GB.{GB}
use Rattle.interface.specs.declared.GB.TheVariants.{Conductance, Susceptance}

-- the network with other branches and shunts
abbrev pub changed : {A : Type 0} → (ℕ → BranchData A) → (ℕ → A) → (ℕ → A) → AcNetwork A → AcNetwork A
changed branch gs bs G =
    record {
      n = G.n;
      m = G.m;
      k = G.k;
      s = G.s;
      bus_id = G.bus_id;
      gs = gs;
      bs = bs;
      pd = G.pd;
      qd = G.qd;
      vm_min = G.vm_min;
      vm_max = G.vm_max;
      bounded = G.bounded;
      branch_id = G.branch_id;
      from = G.from;
      to = G.to;
      branch = branch;
      angmin = G.angmin;
      angmax = G.angmax;
      tanmin = G.tanmin;
      tanmax = G.tanmax;
      rate_a = G.rate_a;
      limited = G.limited;
      angled = G.angled;
      gen_id = G.gen_id;
      gen_bus = G.gen_bus;
      pmin = G.pmin;
      pmax = G.pmax;
      qmin = G.qmin;
      qmax = G.qmax;
      cq = G.cq;
      cl = G.cl;
      cc = G.cc;
      capable = G.capable;
      piecewise = G.piecewise;
      segments = G.segments;
      slope = G.slope;
      intercept = G.intercept;
    }

module _ {A : Type 0} (o : Ops A) (d : A) where
  infixl 60 ◌+◌
  open o use {◌+◌}

  abbrev pub more : GB → BranchData A → BranchData A
  more Conductance t = record { g = t.g + d; b = t.b; gfr = t.gfr; bfr = t.bfr; gto = t.gto; bto = t.bto; tap = t.tap; cosine = t.cosine; sine = t.sine }
  more Susceptance t = record { g = t.g; b = t.b + d; gfr = t.gfr; bfr = t.bfr; gto = t.gto; bto = t.bto; tap = t.tap; cosine = t.cosine; sine = t.sine }

  abbrev pub more_at : ℕ → (ℕ → A) → ℕ → A
  more_at i f j = cond (eqb j i) (f j + d) (f j)

  -- d more of the series conductance, or susceptance, of branch e
  abbrev pub more_series : GB → ℕ → AcNetwork A → AcNetwork A
  more_series gb e G = changed (λ i. cond (eqb i e) (more gb (G.branch i)) (G.branch i)) G.gs G.bs G

  -- d more of the shunt conductance, or susceptance, of bus i
  abbrev pub more_shunt : GB → ℕ → AcNetwork A → AcNetwork A
  more_shunt Conductance i G = changed G.branch (more_at i G.gs) G.bs G
  more_shunt Susceptance i G = changed G.branch G.gs (more_at i G.bs) G
