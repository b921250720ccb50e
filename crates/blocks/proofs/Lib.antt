-- The laws of the definitions of specs/, for the proofs of this crate and of others. Reading order: what is read of an instruction
-- (OperandLaws, ReadLaws), the words and rows that each function stores (WordLaws, UseLaws, EdgeLaws, MemberLaws), what stays of a block
-- (KeptLaws), the loop over a block's instructions (TransferLaws), the blocks of code (CodeLaws), one block (BlockLaws), all blocks (BuildLaws).
pub mod OperandLaws
pub mod ReadLaws
pub mod WordLaws
pub mod UseLaws
pub mod EdgeLaws
pub mod MemberLaws
pub mod KeptLaws
pub mod TransferLaws
pub mod CodeLaws
pub mod BlockLaws
pub mod BuildLaws
