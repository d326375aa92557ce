-- The laws, in reading order: a file uses those above it.

-- tests and lists
pub mod Tests
pub mod Lists
pub mod Stack
pub mod Backwards
pub mod Members
pub mod Scans
pub mod Methods
pub mod Pigeonhole
-- the store: the one fold, rows found and added, frames filled, ways down
pub mod Fold
pub mod Rows
pub mod FirstRows
pub mod Frames
pub mod Fill
pub mod Filled
pub mod Down
-- records as trees and as lists of symbols, and an automaton's one verdict on them
pub mod Trees
pub mod Plug
pub mod Listed
pub mod Records
pub mod Refused
pub mod Verdict
pub mod NoRule
-- the emitted list: blocks, rule bodies, written and read
pub mod Blocks
pub mod Heads
pub mod RuleBodies
pub mod LeftSides
pub mod RulesRead
pub mod Listing
pub mod ListRead
-- the table: the proposal, any automaton that agrees, the search in hand, settling and growing
pub mod Proposal
pub mod Proposed
pub mod Agree
pub mod Injections
pub mod Search
pub mod Held
pub mod Grow
pub mod Renamed
pub mod Turn
pub mod Short
pub mod Flags
pub mod Settle
pub mod Unchanged
pub mod Order
-- steps: a record in hand, an offer, an answer, and the invariant of a run from start
pub mod Advance
pub mod Offer
pub mod Answer
pub mod Cases
pub mod Step
pub mod Faults
pub mod Fresh
-- another number of rows lent
pub mod Room
pub mod Lending
pub mod Needed
pub mod Known
-- soundness, tested and as facts
pub mod ReflectLists
pub mod ReflectRows
pub mod ReflectTable
pub mod Sounds
-- lent words and lists: encoded and read back
pub mod Lent
pub mod Taken
pub mod Took
-- where a step stands: what runs short there, and the record that its question is for
pub mod Begun
pub mod Due
pub mod Asks
-- lent words and lists, call by call
pub mod Along
pub mod Arrays
pub mod LentPart
-- runs: call after call
pub mod RunStep
pub mod AgreeRun
pub mod History
