-- What a completion begins with.
use Rattle.std.specs.Prelude.{ℕ, ◌≤◌, length}
use Rattle.mk_move.specs.MoveLists.{BasisView}

-- the moves of the start, how many pairs may be settled, and how many moves the basis may have
pub record JobView : Type 0 where
  pub start : BasisView
  pub budget : ℕ
  pub basis_limit : ℕ

-- the job of these
abbrev pub job_with : BasisView → ℕ → ℕ → JobView
job_with start budget basis_limit = record { start = start; budget = budget; basis_limit = basis_limit }

-- the start has no more moves than the limit, which is at most 65,536
pub record KeepsLimit (job : JobView) : Type 0 where
  pub start : length job.start.moves ≤ job.basis_limit
  pub limit : job.basis_limit ≤ 65536
