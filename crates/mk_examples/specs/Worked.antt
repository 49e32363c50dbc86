-- What the worked examples speak of, each thing named once.
use Rattle.std.specs.Prelude.{◌≡◌, ℕ, List, [], ◌∷◌, ◌++◌, None, Some, codes, ℤ, pos, neg_ℤ, ◌+ℤ◌, ◌-ℤ◌, int_div}
use Rattle.mk_model.specs.declared.TheConstants.{ENTRY_MAX}
use Rattle.mk_model.specs.Lattices.{Lattice, lattice_of, ones}
use Rattle.mk_model.specs.Tables.{Grid, Limits}
use Rattle.mk_model.specs.CoreStates.{Settle, pair_of, settle, CoreState, claim_of, halt_of, new_state, phase_state, Halt, OverflowStop}
use Rattle.mk_model.specs.CoreStates.{stop_at}
use Rattle.mk_model.specs.Books.{PlainPhase, PlainBook}
use Rattle.mk_model.specs.CoreStates.Way.{Coprime, Zero, Place}

-- ---- two columns: (1 -1), (2 -2) and (4 -4)
abbrev pub unit_move : List ℤ
unit_move = pos 1 ∷ neg_ℤ (pos 1) ∷ []

abbrev pub double_move : List ℤ
double_move = pos 2 ∷ neg_ℤ (pos 2) ∷ []

abbrev pub fourfold_move : List ℤ
fourfold_move = pos 4 ∷ neg_ℤ (pos 4) ∷ []

abbrev pub double_lattice : Lattice
double_lattice = lattice_of 2 (double_move ∷ []) (ones 2)

-- ---- the twisted cubic
-- its rows: (1 -2 1 0) and (0 1 -2 1)
abbrev pub cubic_top : List ℤ
cubic_top = pos 1 ∷ neg_ℤ (pos 2) ∷ pos 1 ∷ pos 0 ∷ []

abbrev pub cubic_bottom : List ℤ
cubic_bottom = pos 0 ∷ pos 1 ∷ neg_ℤ (pos 2) ∷ pos 1 ∷ []

abbrev pub cubic_rows : List (List ℤ)
cubic_rows = cubic_top ∷ cubic_bottom ∷ []

abbrev pub cubic_lattice : Lattice
cubic_lattice = lattice_of 4 cubic_rows (ones 4)

-- its three essential moves: (-1 2 -1 0) and (0 -1 2 -1), which are the rows as the standard list orients
-- them, and (-1 1 1 -1)
abbrev pub cubic_first : List ℤ
cubic_first = neg_ℤ (pos 1) ∷ pos 2 ∷ neg_ℤ (pos 1) ∷ pos 0 ∷ []

abbrev pub cubic_second : List ℤ
cubic_second = pos 0 ∷ neg_ℤ (pos 1) ∷ pos 2 ∷ neg_ℤ (pos 1) ∷ []

abbrev pub cubic_third : List ℤ
cubic_third = neg_ℤ (pos 1) ∷ pos 1 ∷ pos 1 ∷ neg_ℤ (pos 1) ∷ []

-- the rows as they are oriented, and the three in their order
abbrev pub cubic_turned : List (List ℤ)
cubic_turned = cubic_first ∷ cubic_second ∷ []

abbrev pub cubic_moves : List (List ℤ)
cubic_moves = cubic_second ∷ cubic_third ∷ cubic_first ∷ []

-- the fibre of two vectors: (1 0 0 1) and (0 1 1 0)
abbrev pub cubic_outer : List ℤ
cubic_outer = pos 1 ∷ pos 0 ∷ pos 0 ∷ pos 1 ∷ []

abbrev pub cubic_inner : List ℤ
cubic_inner = pos 0 ∷ pos 1 ∷ pos 1 ∷ pos 0 ∷ []

-- ---- three like columns: the rows (1 -1 0) and (0 1 -1), and the moves (0 1 -1) and (1 0 -1)
abbrev pub like_first : List ℤ
like_first = pos 0 ∷ pos 1 ∷ neg_ℤ (pos 1) ∷ []

abbrev pub like_second : List ℤ
like_second = pos 1 ∷ pos 0 ∷ neg_ℤ (pos 1) ∷ []

abbrev pub like_row : List ℤ
like_row = pos 1 ∷ neg_ℤ (pos 1) ∷ pos 0 ∷ []

abbrev pub like_rows : List (List ℤ)
like_rows = like_row ∷ like_first ∷ []

abbrev pub like_lattice : Lattice
like_lattice = lattice_of 3 like_rows (ones 3)

abbrev pub like_moves : List (List ℤ)
like_moves = like_first ∷ like_second ∷ []

-- ---- the curve of weights 1, 2, 3: the rows (2 -1 0) and (1 1 -1), which are its essential moves, and
-- (-1 2 -1), a move of its reduced basis that isn't essential
abbrev pub curve_first : List ℤ
curve_first = pos 2 ∷ neg_ℤ (pos 1) ∷ pos 0 ∷ []

abbrev pub curve_second : List ℤ
curve_second = pos 1 ∷ pos 1 ∷ neg_ℤ (pos 1) ∷ []

abbrev pub curve_third : List ℤ
curve_third = neg_ℤ (pos 1) ∷ pos 2 ∷ neg_ℤ (pos 1) ∷ []

abbrev pub curve_rows : List (List ℤ)
curve_rows = curve_first ∷ curve_second ∷ []

abbrev pub curve_weights : List ℤ
curve_weights = pos 1 ∷ pos 2 ∷ pos 3 ∷ []

abbrev pub curve_lattice : Lattice
curve_lattice = lattice_of 3 curve_rows curve_weights

-- ---- the curve of weights 3, 4, 5: the rows (1 -2 1) and (3 -1 -1)
abbrev pub steep_first : List ℤ
steep_first = pos 1 ∷ neg_ℤ (pos 2) ∷ pos 1 ∷ []

abbrev pub steep_second : List ℤ
steep_second = pos 3 ∷ neg_ℤ (pos 1) ∷ neg_ℤ (pos 1) ∷ []

abbrev pub steep_weights : List ℤ
steep_weights = pos 3 ∷ pos 4 ∷ pos 5 ∷ []

abbrev pub steep_lattice : Lattice
steep_lattice = lattice_of 3 (steep_first ∷ steep_second ∷ []) steep_weights

-- ---- eight columns: the row (-1 1 1 -1 1 -1 -1 1) and its negative
abbrev pub eight_row : List ℤ
eight_row = neg_ℤ (pos 1) ∷ pos 1 ∷ pos 1 ∷ neg_ℤ (pos 1) ∷ pos 1 ∷ neg_ℤ (pos 1) ∷ neg_ℤ (pos 1) ∷ pos 1 ∷ []

abbrev pub eight_move : List ℤ
eight_move = pos 1 ∷ neg_ℤ (pos 1) ∷ neg_ℤ (pos 1) ∷ pos 1 ∷ neg_ℤ (pos 1) ∷ pos 1 ∷ pos 1 ∷ neg_ℤ (pos 1) ∷ []

-- ---- 3 by 3 independence: its nine moves in their order
abbrev pub nine_moves : List (List ℤ)
nine_moves =
    (pos 0 ∷ pos 0 ∷ pos 0 ∷ pos 0 ∷ neg_ℤ (pos 1) ∷ pos 1 ∷ pos 0 ∷ pos 1 ∷ neg_ℤ (pos 1) ∷ [])
    ∷ (pos 0 ∷ neg_ℤ (pos 1) ∷ pos 1 ∷ pos 0 ∷ pos 0 ∷ pos 0 ∷ pos 0 ∷ pos 1 ∷ neg_ℤ (pos 1) ∷ [])
    ∷ (pos 0 ∷ pos 0 ∷ pos 0 ∷ neg_ℤ (pos 1) ∷ pos 0 ∷ pos 1 ∷ pos 1 ∷ pos 0 ∷ neg_ℤ (pos 1) ∷ [])
    ∷ (pos 0 ∷ pos 0 ∷ pos 0 ∷ neg_ℤ (pos 1) ∷ pos 1 ∷ pos 0 ∷ pos 1 ∷ neg_ℤ (pos 1) ∷ pos 0 ∷ [])
    ∷ (neg_ℤ (pos 1) ∷ pos 0 ∷ pos 1 ∷ pos 0 ∷ pos 0 ∷ pos 0 ∷ pos 1 ∷ pos 0 ∷ neg_ℤ (pos 1) ∷ [])
    ∷ (neg_ℤ (pos 1) ∷ pos 1 ∷ pos 0 ∷ pos 0 ∷ pos 0 ∷ pos 0 ∷ pos 1 ∷ neg_ℤ (pos 1) ∷ pos 0 ∷ [])
    ∷ (pos 0 ∷ neg_ℤ (pos 1) ∷ pos 1 ∷ pos 0 ∷ pos 1 ∷ neg_ℤ (pos 1) ∷ pos 0 ∷ pos 0 ∷ pos 0 ∷ [])
    ∷ (neg_ℤ (pos 1) ∷ pos 0 ∷ pos 1 ∷ pos 1 ∷ pos 0 ∷ neg_ℤ (pos 1) ∷ pos 0 ∷ pos 0 ∷ pos 0 ∷ [])
    ∷ (neg_ℤ (pos 1) ∷ pos 1 ∷ pos 0 ∷ pos 1 ∷ neg_ℤ (pos 1) ∷ pos 0 ∷ pos 0 ∷ pos 0 ∷ pos 0 ∷ []) ∷ []

-- ---- tables
abbrev pub worked_table : ℕ → ℕ → List ℤ → Grid
worked_table rows columns entries = record { rows = rows; columns = columns; entries = entries }

abbrev pub cubic_table : Grid
cubic_table = worked_table 2 4 (cubic_top ++ cubic_bottom)

abbrev pub curve_table : Grid
curve_table = worked_table 2 3 (curve_first ++ curve_second)

abbrev pub steep_table : Grid
steep_table = worked_table 2 3 (steep_first ++ steep_second)

-- a space, `+2`, the byte 9, `2`, the bytes 13 and 10, and `01 -1 0 0`; and its table
abbrev pub square_text : List ℕ
square_text = codes " +2" ++ 9 ∷ codes "2" ++ 13 ∷ 10 ∷ codes "01 -1 0 0"

abbrev pub square_table : Grid
square_table = worked_table 2 2 (pos 1 ∷ neg_ℤ (pos 1) ∷ pos 0 ∷ pos 0 ∷ [])

-- what a lattice's table may have
abbrev pub wide_limits : Limits
wide_limits = record { rows = 4096; columns = 512; least = neg_ℤ ENTRY_MAX; most = ENTRY_MAX }

-- at most one row of two columns, with entries from 0 to 9
abbrev pub digit_limits : Limits
digit_limits = record { rows = 1; columns = 2; least = pos 0; most = pos 9 }

-- ---- the completion of (1 -2 1 0) and (0 -1 2 -1) along the list of column 1, which places (1 -1 -1 1)
abbrev pub column_one : List ℕ
column_one = 1 ∷ 3 ∷ 2 ∷ 0 ∷ []

abbrev pub placed_move : List ℤ
placed_move = pos 1 ∷ neg_ℤ (pos 1) ∷ neg_ℤ (pos 1) ∷ pos 1 ∷ []

abbrev pub start_moves : List (List ℤ)
start_moves = cubic_top ∷ cubic_second ∷ []

abbrev pub completed_moves : List (List ℤ)
completed_moves = cubic_top ∷ cubic_second ∷ placed_move ∷ []

-- its entries by worker 0: the pair (0, 1) by the move of place 2, (0, 2) by zero, and (1, 2) by disjoint leads
abbrev pub placing : Settle
placing = settle 0 (pair_of 0 1) (Place 2)

abbrev pub reducing : Settle
reducing = settle 0 (pair_of 0 2) Zero

abbrev pub skipping : Settle
skipping = settle 0 (pair_of 1 2) Coprime

-- it begins for two workers with a budget of 3 pairs and a limit of 3 moves
abbrev pub begun_state : CoreState
begun_state = new_state start_moves 3 3 2

-- when it is ended, without its workers
abbrev pub ended_phase : CoreState
ended_phase = phase_state 2 completed_moves (placing ∷ reducing ∷ skipping ∷ []) 3 3

-- it begins with a limit of 2 moves
abbrev pub narrow_state : CoreState
narrow_state = new_state start_moves 3 2 2

-- worker 0 has halted, for this, with one claim given up
pub record IsHalted (state : CoreState) (halt : Halt) : Type 0 where
  pub none_claimed : claim_of state 0 ≡ None
  pub given_up : state.claims_given_up ≡ 1
  pub kept : halt_of state 0 ≡ Some halt
  pub first : state.first_halted ≡ Some 0

-- ---- a chain: (1 1 -1 -1), (1 -1 1 -1) and (-1 1 1 -1)
abbrev pub chain_moves : List (List ℤ)
chain_moves =
    (pos 1 ∷ pos 1 ∷ neg_ℤ (pos 1) ∷ neg_ℤ (pos 1) ∷ [])
    ∷ (pos 1 ∷ neg_ℤ (pos 1) ∷ pos 1 ∷ neg_ℤ (pos 1) ∷ []) ∷ cubic_third ∷ []

-- ---- overflows: the largest entry less -1, in the difference of a pair
abbrev pub far_moves : List (List ℤ)
far_moves = (neg_ℤ (pos 1) ∷ pos 3 ∷ neg_ℤ (pos 1) ∷ []) ∷ (ENTRY_MAX ∷ pos 1 ∷ neg_ℤ ENTRY_MAX ∷ []) ∷ []

abbrev pub far_state : CoreState
far_state = new_state far_moves 3 3 2

abbrev pub difference_stop : OverflowStop
difference_stop = stop_at (pair_of 0 1) None None 0 ENTRY_MAX (pos 1) (neg_ℤ (pos 1))

-- and the largest less 4, from which -5 is taken in a step by (5 -5 0 0)
abbrev pub step_taken : List ℤ
step_taken = pos 5 ∷ neg_ℤ (pos 5) ∷ pos 0 ∷ pos 0 ∷ []

abbrev pub step_from : List ℤ
step_from = pos 5 ∷ (ENTRY_MAX -ℤ pos 4) ∷ neg_ℤ ENTRY_MAX ∷ neg_ℤ (pos 1) ∷ []

abbrev pub step_moves : List (List ℤ)
step_moves =
    (neg_ℤ (pos 5) ∷ pos 4 ∷ pos 0 ∷ pos 1 ∷ [])
    ∷ (pos 0 ∷ ENTRY_MAX ∷ neg_ℤ ENTRY_MAX ∷ pos 0 ∷ []) ∷ step_taken ∷ []

abbrev pub step_stop : OverflowStop
step_stop = stop_at (pair_of 0 1) (Some 2) (Some step_from) 1 (ENTRY_MAX -ℤ pos 4) (pos 1) (neg_ℤ (pos 5))

-- and the negative of the largest less 1, in a step on a tail by (0 1 -1)
abbrev pub tail_heavy : List ℤ
tail_heavy = int_div (ENTRY_MAX +ℤ pos 1) (pos 2) ∷ neg_ℤ (pos 1) ∷ neg_ℤ ENTRY_MAX ∷ []

abbrev pub tail_moves : List (List ℤ)
tail_moves = tail_heavy ∷ like_first ∷ []

abbrev pub tail_stop : OverflowStop
tail_stop = stop_at (pair_of 0 0) (Some 1) (Some tail_heavy) 2 (neg_ℤ ENTRY_MAX) (neg_ℤ (pos 1)) (neg_ℤ (pos 1))

-- ---- free columns: three rows of which each two have leads that overlap, along every list
abbrev pub overlapping_rows : List (List ℤ)
overlapping_rows =
    (pos 1 ∷ pos 1 ∷ neg_ℤ (pos 1) ∷ neg_ℤ (pos 1) ∷ []) ∷ (pos 1 ∷ neg_ℤ (pos 1) ∷ pos 1 ∷ neg_ℤ (pos 1) ∷ [])
    ∷ (pos 1 ∷ neg_ℤ (pos 1) ∷ neg_ℤ (pos 1) ∷ pos 1 ∷ []) ∷ []

-- ---- books: of the lattice of (1 -1), whose phases have no pair; column 0 is free
abbrev pub unit_lattice : Lattice
unit_lattice = lattice_of 2 (unit_move ∷ []) (ones 2)

abbrev pub lone_phase : List ℕ → List ℤ → PlainPhase
lone_phase list move = record { priority = list; start_length = 1; basis = move ∷ []; journal = [] }

abbrev pub unit_book : PlainBook
unit_book = record {
  phases = lone_phase (1 ∷ 0 ∷ []) unit_move ∷ lone_phase (1 ∷ 0 ∷ []) unit_move ∷ [];
  reduced = Some (unit_move ∷ []);
}

-- and of the twisted cubic with a budget of 0 pairs: the phase of column 0 has settled none
abbrev pub starved_book : PlainBook
starved_book = record {
  phases = record { priority = 0 ∷ 3 ∷ 2 ∷ 1 ∷ []; start_length = 2; basis = cubic_turned; journal = [] } ∷ [];
  reduced = None;
}
