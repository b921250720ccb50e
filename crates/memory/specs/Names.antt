-- The cells of both buffers, by the names of src/names.rt.
use Rattle.std.specs.Prelude.{ℕ, ◌+◌, ◌*◌}

-- a word an instruction
abbrev pub offset_cell : ℕ
offset_cell = 0

abbrev pub block_of_cell : ℕ
block_of_cell = 1

abbrev pub leader_cell : ℕ
leader_cell = 2

abbrev pub cost_cell : ℕ
cost_cell = 3

-- a word a block
abbrev pub start_cell : ℕ
start_cell = 4

abbrev pub end_cell : ℕ
end_cell = 5

abbrev pub reachable_cell : ℕ
reachable_cell = 6

abbrev pub successor_count_cell : ℕ
successor_count_cell = 7

abbrev pub first_edge_cell : ℕ
first_edge_cell = 8

abbrev pub predecessor_count_cell : ℕ
predecessor_count_cell = 9

abbrev pub order_cell : ℕ
order_cell = 10

abbrev pub ring_cell : ℕ
ring_cell = 11

abbrev pub queued_cell : ℕ
queued_cell = 12

abbrev pub stack_block_cell : ℕ
stack_block_cell = 13

abbrev pub stack_edge_cell : ℕ
stack_edge_cell = 14

abbrev pub visited_cell : ℕ
visited_cell = 15

-- a word an edge
abbrev pub successor_cell : ℕ
successor_cell = 16

abbrev pub next_edge_cell : ℕ
next_edge_cell = 17

-- every cell before this one has a name, and every cell from it on is a row
abbrev pub first_row : ℕ
first_row = 18

-- rows: what block b uses and what it defines
abbrev pub uses_row : ℕ → ℕ
uses_row b = 18 + 2 * b

abbrev pub defines_row : ℕ → ℕ
defines_row b = 19 + 2 * b

-- behind those of n blocks the k-th of two more rows a block
abbrev pub spare_row : ℕ → ℕ → ℕ
spare_row n k = 18 + 2 * n + k

-- and of n blocks together: the running state, the running live set, the parameters, the host slots
abbrev pub state_row : ℕ → ℕ
state_row n = 18 + 4 * n

abbrev pub live_state_row : ℕ → ℕ
live_state_row n = 19 + 4 * n

abbrev pub parameters_row : ℕ → ℕ
parameters_row n = 20 + 4 * n

abbrev pub hosts_row : ℕ → ℕ
hosts_row n = 21 + 4 * n

-- rows of the sets buffer: what is initialized at block b's exit, and what is live at its entry
abbrev pub initialized_row : ℕ → ℕ
initialized_row b = 2 * b

abbrev pub live_row : ℕ → ℕ
live_row b = 2 * b + 1

-- and behind the rows of n blocks the entry of the k-th await
abbrev pub await_entry : ℕ → ℕ → ℕ
await_entry n k = 2 * n + k
