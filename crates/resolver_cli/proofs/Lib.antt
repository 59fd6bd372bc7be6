mod Watching
