-- The flows of a branch: what the manual says of them, and what the columns of the four Ohm rows hold. On any operations.
use Rattle.std.specs.Prelude.{ℕ}
use Rattle.ring.specs.Ops.{Ops}
use Rattle.rows.specs.declared.OhmRow.{OhmRow}
use Rattle.rows.specs.declared.OhmRow.TheVariants.{Pf as pf, Qf as qf, Pt as pt, Qt as qt}
use Rattle.records.specs.AcNetwork.{BranchData, AcNetwork}
use Rattle.manual.specs.Matpower.{Complex, complex, Line, scale, multiple, sf, st, sf_w, st_w, conj, ◌⊗◌, square}
use Rattle.numbering.specs.declared.ColumnName.{ColumnName}
use Rattle.numbering.specs.declared.ColumnName.TheVariants.{W, Wr, Wi, Pf, Pt, Qf, Qt}

-- what the columns of a branch's rows hold, both powers of an end as one complex number
pub record Point (A : Type 0) : Type 0 where
  pub wf : A
  pub wt : A
  pub c : Complex A
  pub sf : Complex A
  pub st : Complex A

module _ {A : Type 0} (o : Ops A) where
  infixl 60 ◌+◌
  infixl 60 ◌-◌
  infixl 70 ◌*◌
  open o use {◌+◌, ◌-◌, ◌*◌}

  -- the manual's line, where both ends hold half of bc; tap is τ, shift is θ
  abbrev pub line_of : BranchData A → Line A
  line_of d = record { g = d.g; b = d.b; bc = d.bfr + d.bto; τ = d.tap; cosθ = d.cosine; sinθ = d.sine }

  -- the column of a row's flow
  abbrev pub held_flow : Point A → OhmRow → A
  held_flow x pf = x.sf.re
  held_flow x qf = x.sf.im
  held_flow x pt = x.st.re
  held_flow x qt = x.st.im

  -- 2 τ² times what the manual says of the row's flow
  abbrev pub manual : Line A → Point A → OhmRow → A
  manual l x pf = (sf_w o (multiple o l) x.wf x.wt x.c).re
  manual l x qf = (sf_w o (multiple o l) x.wf x.wt x.c).im
  manual l x pt = (st_w o (multiple o l) x.wf x.wt x.c).re
  manual l x qt = (st_w o (multiple o l) x.wf x.wt x.c).im

  -- 2 τ² times the manual's flow less the column's
  abbrev pub less : Line A → Point A → OhmRow → A
  less l x r = manual l x r - scale o l * held_flow x r

-- ---- in a network: the columns are those that the numbering names
abbrev pub point_at : {A : Type 0} → AcNetwork A → (ColumnName → A) → ℕ → Point A
point_at G x e =
    record {
      wf = x (W (G.from e));
      wt = x (W (G.to e));
      c = record { re = x (Wr e); im = x (Wi e) };
      sf = record { re = x (Pf e); im = x (Qf e) };
      st = record { re = x (Pt e); im = x (Qt e) };
    }

-- ---- from voltages: 2 τ² times the manual's S_f = v_f conj(i_f) and S_t = v_t conj(i_t)
module _ {A : Type 0} (o : Ops A) (l : Line A) (vf vt : Complex A) where
  abbrev pub from_v : OhmRow → A
  from_v pf = (sf o (multiple o l) vf vt).re
  from_v qf = (sf o (multiple o l) vf vt).im
  from_v pt = (st o (multiple o l) vf vt).re
  from_v qt = (st o (multiple o l) vf vt).im

  -- where w = |v|² and c = v_f conj(v_t)
  abbrev pub products : Point A
  products =
      record {
        wf = square o vf;
        wt = square o vt;
        c = ◌⊗◌ o vf (conj o vt);
        sf = complex o o.zero o.zero;
        st = complex o o.zero o.zero;
      }
