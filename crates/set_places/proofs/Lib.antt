mod FindFaults
mod FoundSets
mod FoundSources
mod MemberRows
