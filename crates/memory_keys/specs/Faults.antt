-- Why a pool refuses, told by regions.
use Rattle.page_pool.specs.declared.PoolFault.{PoolFault}
use Rattle.page_pool.specs.declared.PoolFault.TheVariants as pool
use Rattle.memory_keys.specs.declared.MemFault.{MemFault}
use Rattle.memory_keys.specs.declared.MemFault.TheVariants.{NoPage, OutOfMemory}

-- the same refusal
abbrev pub fault_of : PoolFault → MemFault
fault_of pool.NoPage = NoPage
fault_of pool.OutOfMemory = OutOfMemory
