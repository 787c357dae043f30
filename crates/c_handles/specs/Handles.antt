-- What the handle of a disk owns.
use Rattle.std.specs.Prelude.{Option}
use Rattle.c_handles.specs.declared.disk.Disk.{Disk}
use Rattle.c_handles.specs.declared.disk_handle.DiskHandle.{DiskHandle}

-- the disk that a handle owns, if it owns one
abbrev pub disk_in : DiskHandle → Option Disk
disk_in h = h.held.disk
