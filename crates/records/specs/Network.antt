-- The network that counts and records stand for, and what the record check shows of those that it accepts.
-- Buses start at record 0, branches at n, generators at n + m, segments at n + m + k.
use Rattle.std.specs.Prelude.{ℕ, ◌+◌, ◌*◌, ◌≤◌, ◌<◌, ◌≡◌, false, List, length, Float}
use Rattle.lists.specs.UpTo.{sum}
use Rattle.records.specs.Fields.{count_of, id_of, voltage_bound_of, gs_of, bs_of, pd_of, qd_of, vm_min_of, vm_max_of, limited_of, from_of, to_of, g_of}
use Rattle.records.specs.Fields.{b_of, g_fr_of, b_fr_of, g_to_of, b_to_of, tap_of, cos_shift_of, sin_shift_of, angmin_of, angmax_of, tan_angmin_of}
use Rattle.records.specs.Fields.{tan_angmax_of, rate_a_of, angled_of, capability_of, piecewise_of, segments_of, gen_bus_of, pmin_of, pmax_of, qmin_of}
use Rattle.records.specs.Fields.{qmax_of, cq_of, cl_of, cc_of, slope_of, intercept_of}
use Rattle.records.specs.AcNetwork.{BranchData, AcNetwork}

-- the branch at record r
unfoldable pub branch_data_of : List ℕ → ℕ → BranchData Float
branch_data_of b r =
    record {
      g = g_of b r;
      b = b_of b r;
      gfr = g_fr_of b r;
      bfr = b_fr_of b r;
      gto = g_to_of b r;
      bto = b_to_of b r;
      tap = tap_of b r;
      cosine = cos_shift_of b r;
      sine = sin_shift_of b r;
    }

-- "Segments follow in generator order": how many belong to the generators before g, and the record of segment t of generator g
abbrev pub segments_before : (n m : ℕ) → List ℕ → ℕ → ℕ
segments_before n m b g = sum g (λ i. segments_of b (n + m + i))

unfoldable pub segment_record : (n m k : ℕ) → List ℕ → ℕ → ℕ → ℕ
segment_record n m k b g t = n + m + k + segments_before n m b g + t

abbrev pub network_of : (n m k s : ℕ) → List ℕ → AcNetwork Float
network_of n m k s b =
    record {
      n = n;
      m = m;
      k = k;
      s = s;
      bus_id = λ i. id_of b i;
      gs = λ i. gs_of b i;
      bs = λ i. bs_of b i;
      pd = λ i. pd_of b i;
      qd = λ i. qd_of b i;
      vm_min = λ i. vm_min_of b i;
      vm_max = λ i. vm_max_of b i;
      bounded = λ i. voltage_bound_of b i;
      branch_id = λ e. id_of b (n + e);
      from = λ e. from_of b (n + e);
      to = λ e. to_of b (n + e);
      branch = λ e. branch_data_of b (n + e);
      angmin = λ e. angmin_of b (n + e);
      angmax = λ e. angmax_of b (n + e);
      tanmin = λ e. tan_angmin_of b (n + e);
      tanmax = λ e. tan_angmax_of b (n + e);
      rate_a = λ e. rate_a_of b (n + e);
      limited = λ e. limited_of b (n + e);
      angled = λ e. angled_of b (n + e);
      gen_id = λ g. id_of b (n + m + g);
      gen_bus = λ g. gen_bus_of b (n + m + g);
      pmin = λ g. pmin_of b (n + m + g);
      pmax = λ g. pmax_of b (n + m + g);
      qmin = λ g. qmin_of b (n + m + g);
      qmax = λ g. qmax_of b (n + m + g);
      cq = λ g. cq_of b (n + m + g);
      cl = λ g. cl_of b (n + m + g);
      cc = λ g. cc_of b (n + m + g);
      capable = λ g. capability_of b (n + m + g);
      piecewise = λ g. piecewise_of b (n + m + g);
      segments = λ g. segments_of b (n + m + g);
      slope = λ g t. slope_of b (segment_record n m k b g t);
      intercept = λ g t. intercept_of b (segment_record n m k b g t);
    }

-- what is known of counts and records that the record check accepts
pub record Accepted (n m k s : ℕ) (b : List ℕ) : Type 0 where
  pub few-buses : n ≤ 4096
  pub few-branches : m ≤ 8192
  pub few_generators : k ≤ 4096
  pub few-segments : s ≤ 65536
  pub size : length b ≡ 128 * (n + m + k + s)
  pub from-below : (e : ℕ) → e < m → from_of b (n + e) < n
  pub to_below : (e : ℕ) → e < m → to_of b (n + e) < n
  pub ends_differ : (e : ℕ) → e < m → from_of b (n + e) ≡ to_of b (n + e) → ⊥
  pub bus_below : (g : ℕ) → g < k → gen_bus_of b (n + m + g) < n
  pub plain-count : (g : ℕ) → g < k → piecewise_of b (n + m + g) ≡ false → count_of b (n + m + g) ≡ 0
  pub counts-add : sum k (λ g. segments_of b (n + m + g)) ≡ s
